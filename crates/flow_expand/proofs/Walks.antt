-- A walk that looks for recursions, step by step.
use Rattle.std.proofs.Common.{◌≡◌, ◌≢◌, ℕ, ◌+◌, ◌-◌, ◌<◌, ◌≤◌, zero, suc, Bool, List, [], ◌∷◌, ◌++◌, length, take, Option, Some, None, Ok, Err, refl, ap, sym, subst, ◌∙◌, ◌⊎◌, inl, inr, slice_get, arith, add-one, replicate, get_or}
use Rattle.std.specs.Prelude.{slice_set, IsSome}
use Rattle.std.specs.List.{AllByRecursion, cons_option}
use Rattle.std.proofs.lemmas.List.{length-set, take_all, take_more as more}
use Rattle.std.proofs.lemmas.Option.{slice_get_within, get_or_from_slice_get, slice_get-get_or}
use Rattle.std.specs.Option.{option_map_or}
use Rattle.flow_net.proofs.Places.{slice_get-set_other, slice_get-set_is, same_or_not}
use Rattle.flow_parse.specs.declared.value.NetPart.{NetPart}
use Rattle.flow_parse.specs.declared.value.NetText.{NetText}
use Rattle.flow_parse.proofs.Cutting.{AllByRecursion-push}
use Rattle.flow_flat.specs.declared.fault.ExpandFault.TheVariants.{Recursive}
use Rattle.flow_flat.specs.Firsts.{AllPass, FirstFails}
use Rattle.flow_flat.specs.Subnets.{Instance, instances}
use Rattle.flow_flat.specs.Texts.{RecursionPasses, deep_instances, fails_if}
use Rattle.flow_flat.specs.declared.fault.ExpandFault.{ExpandFault}
use Rattle.std.specs.declared.result.Result.{Result}
use Rattle.flow_expand.specs.declared.recursion.Mark.{Mark}
use Rattle.flow_expand.specs.declared.recursion.Mark.TheVariants.{New, Open, Done}
use Rattle.flow_expand.specs.declared.recursion.Spot.{Spot}
use Rattle.flow_expand.specs.Marks.{LeadsOn, IsNext}
use Rattle.flow_expand.specs.Ways.{part_at, name_at}
use Rattle.flow_expand.proofs.Places.{found}
use Rattle.flow_expand.proofs.Clean.{Passes, Fails, Found, Clean, AllClean, Keeps, all_also, part_passes, clean_stays, leads_stays, now_clean}
use Rattle.flow_expand.proofs.Wayside.{opened, Linked, LeadOn, Member, again_fails, next_found, opened_count}
use Rattle.flow_expand.proofs.Firsts.{first_here}

-- How many subnets weren't met.
abbrev pub news : List Mark → ℕ
news [] = 0
news (New ∷ ms) = suc (news ms)
news (Open ∷ ms) = news ms
news (Done ∷ ms) = news ms

news_met : (ms : List Mark) (s : ℕ) → slice_get ms s ≡ Some New → news ms ≡ suc (news (slice_set ms s Open))
news_met [] s is = absurd (cc)
news_met (m ∷ ms) zero is = let same : m ≡ New = cc in ap (λ (k : Mark). news (k ∷ ms)) same
news_met (New ∷ ms) (suc s) is = ap suc (news_met ms s is)
news_met (Open ∷ ms) (suc s) is = news_met ms s is
news_met (Done ∷ ms) (suc s) is = news_met ms s is

news_done : (ms : List Mark) (s : ℕ) → slice_get ms s ≡ Some Open → news (slice_set ms s Done) ≡ news ms
news_done [] s is = absurd (cc)
news_done (m ∷ ms) zero is = let same : m ≡ Open = cc in ap (λ (k : Mark). news (k ∷ ms)) (sym same)
news_done (New ∷ ms) (suc s) is = ap suc (news_done ms s is)
news_done (Open ∷ ms) (suc s) is = news_done ms s is
news_done (Done ∷ ms) (suc s) is = news_done ms s is

news_few : (ms : List Mark) → news ms ≤ length ms
news_few [] = omega arith
news_few (New ∷ ms) = let r = news_few ms in omega arith
news_few (Open ∷ ms) = let r = news_few ms in omega arith
news_few (Done ∷ ms) = let r = news_few ms in omega arith

all_new : (n t : ℕ) (m : Mark) → slice_get (replicate n New) t ≡ Some m → m ≡ New
all_new zero t m is = absurd (cc)
all_new (suc n) zero m is = cc
all_new (suc n) (suc t) m is = all_new n t m is

take_at : {X : Type 0} (xs : List X) (i : ℕ) (x : X) → slice_get xs i ≡ Some x → take (i + 1) xs ≡ take i xs ++ x ∷ []
take_at {X} xs i x is = more xs i x (slice_get_within xs i x is) ∙ ap (λ (y : X). take i xs ++ y ∷ []) (get_or_from_slice_get xs i x x is)

module _ (text : NetText) where
  linked_open : (marks : List Mark) (fs : List Spot) → Linked text marks fs → AllByRecursion (λ a. slice_get marks a ≡ Some Open) (opened text fs)
  linked_open marks [] linked = absurd linked
  linked_open marks (f ∷ []) linked = subst (λ (o : Option ℕ). AllByRecursion (λ a. slice_get marks a ≡ Some Open) (cons_option o [])) (sym linked) tt
  linked_open marks (f ∷ g ∷ gs) linked = subst (λ (o : Option ℕ). AllByRecursion (λ a. slice_get marks a ≡ Some Open) (cons_option o (opened text (g ∷ gs)))) (sym linked.1) (linked.2.3, linked_open marks (g ∷ gs) linked.4)

  linked_set : (marks : List Mark) (s : ℕ) (mark : Mark) (fs : List Spot) → Linked text marks fs → AllByRecursion (λ a. a ≢ s) (opened text fs) → Linked text (slice_set marks s mark) fs
  linked_set marks s mark [] linked apart = absurd linked
  linked_set marks s mark (f ∷ []) linked apart = linked
  linked_set marks s mark (f ∷ g ∷ gs) linked apart =
      let both : AllByRecursion (λ a. a ≢ s) (linked.0 ∷ opened text (g ∷ gs)) = subst (λ (o : Option ℕ). AllByRecursion (λ a. a ≢ s) (cons_option o (opened text (g ∷ gs)))) linked.1 apart in
      (linked.0, linked.1, (linked.2.0, linked.2.1, linked.2.2, slice_get-set_other marks s linked.0 mark both.0 ∙ linked.2.3), linked.3, linked_set marks s mark (g ∷ gs) linked.4 both.1)

  -- A walk on its way.
  pub record Walking (marks : List Mark) (fs : List Spot) : Type 0 where
    pub size : length marks ≡ length text.subnets
    pub clean : AllClean text marks
    pub linked : Linked text marks fs
    pub lead : LeadOn text marks fs
    pub around : (t : ℕ) → slice_get marks t ≡ Some Open → Member text t (opened text fs)
    pub room : length (opened text fs) + news marks ≤ length text.subnets

  -- A walk on its way, or one that ended.
  abbrev pub Walk : List Mark → List Spot → Type 0
  Walk marks [] = AllByRecursion Passes (instances text (suc (length text.subnets)) [] [] text.main)
  Walk marks (f ∷ fs) = Walking marks (f ∷ fs)

  pub begins : (marks : List Mark) → marks ≡ replicate (length text.subnets) New → length marks ≡ length text.subnets → Walk marks (record { subnet = None; next = 0 } ∷ [])
  begins marks is size =
      let fresh : (t : ℕ) (m : Mark) → slice_get marks t ≡ Some m → m ≡ New = λ t m there. all_new (length text.subnets) t m (subst (λ (l : List Mark). slice_get l t ≡ Some m) is there) in
      let few = news_few marks in
      record {
        size = size;
        clean = λ t done. absurd (let same = fresh t Done done in cc);
        linked = refl;
        lead = (tt, tt);
        around = λ t there. absurd (let same = fresh t Open there in cc);
        room = omega arith;
      }

  abbrev pub forward : Spot → Spot
  forward f = record { subnet = f.subnet; next = f.next + 1 }

  module _ (marks : List Mark) (f : Spot) (fs : List Spot) (w : Walking marks (f ∷ fs)) where
    linked_on : (fs : List Spot) → Linked text marks (f ∷ fs) → Linked text marks (forward f ∷ fs)
    linked_on [] linked = linked
    linked_on (g ∷ gs) linked = linked

    -- A process leads on.
    pub passes_on : (x : List ℕ × List ℕ) → slice_get (part_at text f.subnet).processes f.next ≡ Some x → LeadsOn text marks x → Walk marks (forward f ∷ fs)
    passes_on x here leads = record {
      size = w.size;
      clean = w.clean;
      linked = linked_on fs w.linked;
      lead = (subst (λ (l : List (List ℕ × List ℕ)). AllByRecursion (LeadsOn text marks) l) (sym (take_at (part_at text f.subnet).processes f.next x here)) (AllByRecursion-push (LeadsOn text marks) (take f.next (part_at text f.subnet).processes) x w.lead.0 leads), w.lead.1);
      around = w.around;
      room = w.room;
    }

    -- The first part of a way, where it is a subnet, was met and isn't done.
    pub top_open : (s : ℕ) → f.subnet ≡ Some s → slice_get marks s ≡ Some Open
    top_open s is = by fs w.linked where
      by : (fs : List Spot) → Linked text marks (f ∷ fs) → slice_get marks s ≡ Some Open
      by [] linked = absurd (cc (is, linked))
      by (g ∷ gs) linked = let same : linked.0 ≡ s = cc (linked.1, is) in ap (slice_get marks) (sym same) ∙ linked.2.3

    -- Main is done.
    main_ends : (fs : List Spot) → fs ≡ fs → f.subnet ≡ None → length (part_at text f.subnet).processes ≤ f.next → Linked text marks (f ∷ fs) → Walk marks fs
    main_ends [] same none over linked = part_passes text marks w.clean (suc (length text.subnets)) [] [] tt text.main
        (subst (λ (o : Option ℕ). AllByRecursion (LeadsOn text marks) (part_at text o).processes) none (subst (λ (l : List (List ℕ × List ℕ)). AllByRecursion (LeadsOn text marks) l) (take_all f.next (part_at text f.subnet).processes over) w.lead.0))
    main_ends (g ∷ gs) same none over linked = absurd (cc (none, linked.1))

    pub ends_main : f.subnet ≡ None → length (part_at text f.subnet).processes ≤ f.next → Walk marks fs
    ends_main none over = main_ends fs refl none over w.linked

    -- The first part stands in itself.
    pub ends_again : (s : ℕ) → IsNext text marks f s Open → Fails (instances text (suc (length text.subnets)) [] [] text.main) (name_at text (Some s))
    ends_again s next =
        let deep = opened_count text marks (f ∷ fs) w.linked in
        let room = w.room in
        let few : length fs ≤ length text.subnets = omega arith in
        let levels : suc (length text.subnets - length fs) + length fs ≡ suc (length text.subnets) = omega arith in
        subst (λ (n : ℕ). Fails (instances text n [] [] text.main) (name_at text (Some s))) levels
        (again_fails text marks f fs s (length text.subnets - length fs) w.clean w.linked w.lead next (w.around s next.3))

    set_keeps : (s : ℕ) (mark : Mark) → (slice_get marks s ≡ Some Done → ⊥) → Keeps text marks (slice_set marks s mark)
    set_keeps s mark opens_ t done = by (same_or_not t s) where
      by : (t ≡ s) ⊎ (t ≢ s) → slice_get (slice_set marks s mark) t ≡ Some Done
      by (inl same) = absurd (opens_ (ap (slice_get marks) (sym same) ∙ done))
      by (inr other) = slice_get-set_other marks s t mark other ∙ done

    lead_stays : (new : List Mark) (fs : List Spot) → Keeps text marks new → LeadOn text marks fs → LeadOn text new fs
    lead_stays new fs keeps lead = all_also (λ (f : Spot). AllByRecursion (LeadsOn text marks) (take f.next (part_at text f.subnet).processes)) (λ (f : Spot). AllByRecursion (LeadsOn text new) (take f.next (part_at text f.subnet).processes)) fs
        (λ g each. all_also (LeadsOn text marks) (LeadsOn text new) (take g.next (part_at text g.subnet).processes) (leads_stays text marks new keeps) each) lead

    -- What a place holds behind a write.
    set_same : (s : ℕ) (old mark : Mark) → slice_get marks s ≡ Some old → slice_get (slice_set marks s mark) s ≡ Some mark
    set_same s old mark is = slice_get-set_is marks s mark (subst (λ (o : Option Mark). IsSome o) (sym is) refl)

    -- A subnet that wasn't met is walked.
    pub goes_inside : (s : ℕ) → IsNext text marks f s New → Walk (slice_set marks s Open) (record { subnet = Some s; next = 0 } ∷ f ∷ fs)
    goes_inside s next =
        let keeps = set_keeps s Open (λ done. absurd (cc (done, next.3))) in
        let apart : AllByRecursion (λ a. a ≢ s) (opened text (f ∷ fs)) = all_also (λ a. slice_get marks a ≡ Some Open) (λ a. a ≢ s) (opened text (f ∷ fs)) (λ a opens_ same. absurd (cc (opens_, next.3, same))) (linked_open marks (f ∷ fs) w.linked) in
        let met = news_met marks s next.3 in
        let room = w.room in
        record {
          size = length-set marks s Open ∙ w.size;
          clean = λ t done. clean_at s next.3 keeps t done (same_or_not t s);
          linked = (s, refl, (next.0, next.1, next.2, set_same s New Open next.3), apart, linked_set marks s Open (f ∷ fs) w.linked apart);
          lead = (tt, lead_stays (slice_set marks s Open) (f ∷ fs) keeps w.lead);
          around = λ t opens_. around_at s next.3 t opens_ (same_or_not t s);
          room = omega arith;
        }
      where
        clean_at : (s : ℕ) → slice_get marks s ≡ Some New → Keeps text marks (slice_set marks s Open) → (t : ℕ) → slice_get (slice_set marks s Open) t ≡ Some Done → (t ≡ s) ⊎ (t ≢ s) → Clean text (slice_set marks s Open) t
        clean_at s is keeps t done (inl same) = absurd (cc (done, ap (slice_get (slice_set marks s Open)) same ∙ set_same s New Open is))
        clean_at s is keeps t done (inr other) = clean_stays text marks (slice_set marks s Open) keeps t (w.clean t (sym (slice_get-set_other marks s t Open other) ∙ done))

        around_at : (s : ℕ) → slice_get marks s ≡ Some New → (t : ℕ) → slice_get (slice_set marks s Open) t ≡ Some Open → (t ≡ s) ⊎ (t ≢ s) → (s ≡ t) ⊎ Member text t (opened text (f ∷ fs))
        around_at s is t opens_ (inl same) = inl (sym same)
        around_at s is t opens_ (inr other) = inr (w.around t (sym (slice_get-set_other marks s t Open other) ∙ opens_))

    -- A subnet is done.
    pub ends_subnet : (s : ℕ) → f.subnet ≡ Some s → length (part_at text f.subnet).processes ≤ f.next → Walk (slice_set marks s Done) fs
    ends_subnet s is over = by fs w.linked w.lead w.around w.room where
      by : (fs : List Spot) → Linked text marks (f ∷ fs) → LeadOn text marks (f ∷ fs) → ((t : ℕ) → slice_get marks t ≡ Some Open → Member text t (opened text (f ∷ fs))) → length (opened text (f ∷ fs)) + news marks ≤ length text.subnets → Walk (slice_set marks s Done) fs
      by [] linked lead around room = absurd (cc (is, linked))
      by (g ∷ gs) linked lead around room =
          let same : linked.0 ≡ s = cc (linked.1, is) in
          let opens : slice_get marks s ≡ Some Open = ap (slice_get marks) (sym same) ∙ linked.2.3 in
          let there : Found text s = subst (Found text) same (next_found text marks g linked.0 Open linked.2) in
          let apart : AllByRecursion (λ a. a ≢ s) (opened text (g ∷ gs)) = subst (λ (k : ℕ). AllByRecursion (λ a. a ≢ k) (opened text (g ∷ gs))) same linked.3 in
          let keeps = set_keeps s Done (λ done. absurd (cc (done, opens))) in
          let whole : AllByRecursion (LeadsOn text marks) (part_at text (Some s)).processes =
          subst (λ (o : Option ℕ). AllByRecursion (LeadsOn text marks) (part_at text o).processes) is (subst (λ (l : List (List ℕ × List ℕ)). AllByRecursion (LeadsOn text marks) l) (take_all f.next (part_at text f.subnet).processes over) lead.0) in
          let fewer = news_done marks s opens in
          let count : length (opened text (f ∷ g ∷ gs)) ≡ suc (length (opened text (g ∷ gs))) = ap (λ (o : Option ℕ). length (cons_option o (opened text (g ∷ gs)))) is in
          record {
            size = length-set marks s Done ∙ w.size;
            clean = λ t done. clean_at t opens there keeps whole done (same_or_not t s);
            linked = linked_set marks s Done (g ∷ gs) linked.4 apart;
            lead = lead_stays (slice_set marks s Done) (g ∷ gs) keeps lead.1;
            around = λ t opens_. around_at t gs g opens opens_ around (same_or_not t s);
            room = omega arith;
          }
        where
          clean_at : (t : ℕ) → slice_get marks s ≡ Some Open → Found text s → Keeps text marks (slice_set marks s Done) → AllByRecursion (LeadsOn text marks) (part_at text (Some s)).processes → slice_get (slice_set marks s Done) t ≡ Some Done → (t ≡ s) ⊎ (t ≢ s) → Clean text (slice_set marks s Done) t
          clean_at t opens there keeps whole done (inl same) = subst (Clean text (slice_set marks s Done)) (sym same) (now_clean text marks (slice_set marks s Done) s w.clean keeps there opens whole)
          clean_at t opens there keeps whole done (inr other) = clean_stays text marks (slice_set marks s Done) keeps t (w.clean t (sym (slice_get-set_other marks s t Done other) ∙ done))

          around_at : (t : ℕ) (gs : List Spot) (g : Spot) → slice_get marks s ≡ Some Open → slice_get (slice_set marks s Done) t ≡ Some Open → ((t : ℕ) → slice_get marks t ≡ Some Open → Member text t (opened text (f ∷ g ∷ gs))) → (t ≡ s) ⊎ (t ≢ s) → Member text t (opened text (g ∷ gs))
          around_at t gs g opens opens_ around (inl same) = absurd (cc (opens_, ap (slice_get (slice_set marks s Done)) same ∙ set_same s Open Done opens))
          around_at t gs g opens opens_ around (inr other) = left (subst (λ (o : Option ℕ). Member text t (cons_option o (opened text (g ∷ gs)))) is (around t (sym (slice_get-set_other marks s t Done other) ∙ opens_))) where
            left : (s ≡ t) ⊎ Member text t (opened text (g ∷ gs)) → Member text t (opened text (g ∷ gs))
            left (inl same) = absurd (other (sym same))
            left (inr there) = there

  -- The same, of the first instance that fails.
  passed_all : (xs : List Instance) → AllByRecursion Passes xs → AllPass RecursionPasses xs
  passed_all [] all k x is = absurd (cc)
  passed_all (y ∷ xs) all zero x is =
      let same : y ≡ x = cc in
      subst (λ (z : Instance). RecursionPasses [] z (Ok tt)) same (ap (λ (b : Bool). fails_if b (Recursive y.kind)) all.0)
  passed_all (y ∷ xs) all (suc k) x is = passed_all xs all.1 k x is

  deep_is : deep_instances text ≡ instances text (suc (length text.subnets)) [] [] text.main
  deep_is = ap (λ (n : ℕ). instances text n [] [] text.main) (add-one (length text.subnets))

  pub all_pass : AllByRecursion Passes (instances text (suc (length text.subnets)) [] [] text.main) → AllPass RecursionPasses (deep_instances text)
  all_pass all = subst (λ (l : List Instance). AllPass RecursionPasses l) (sym deep_is) (passed_all (instances text (suc (length text.subnets)) [] [] text.main) all)

  pub first_fails : (name : List ℕ) → Fails (instances text (suc (length text.subnets)) [] [] text.main) name → FirstFails RecursionPasses (deep_instances text) (Recursive name)
  first_fails name f = first_here RecursionPasses (deep_instances text) f.before f.one f.after (Recursive name) (deep_is ∙ f.is) (passed_all f.before f.pass)
      (ap (λ (b : Bool). fails_if b (Recursive f.one.kind)) f.again ∙ ap (λ (k : List ℕ). let r : Result (Unit {0}) ExpandFault = Err (Recursive k) in r) f.named)

-- What is left to be looked at of the subnets that weren't met, and of a way.
abbrev pub pending : List Mark → List (List ℕ × NetPart) → ℕ
pending [] xs = 0
pending (m ∷ ms) [] = 0
pending (New ∷ ms) (x ∷ xs) = (length x.1.processes + 2) + pending ms xs
pending (Open ∷ ms) (x ∷ xs) = pending ms xs
pending (Done ∷ ms) (x ∷ xs) = pending ms xs

-- How many steps the subnets on the way still take at most.
abbrev pub left : NetText → List Spot → ℕ
left text [] = 0
left text (f ∷ fs) = (length (part_at text f.subnet).processes - f.next + 1) + left text fs

pending_met : (ms : List Mark) (xs : List (List ℕ × NetPart)) (s : ℕ) (x : List ℕ × NetPart) → slice_get ms s ≡ Some New → slice_get xs s ≡ Some x → pending ms xs ≡ (length x.1.processes + 2) + pending (slice_set ms s Open) xs
pending_met [] xs s x is at = absurd (cc)
pending_met (m ∷ ms) [] s x is at = absurd (cc)
pending_met (m ∷ ms) (y ∷ xs) zero x is at =
    let same : m ≡ New = cc in
    let one : y ≡ x = cc in
    ap (λ (k : Mark). pending (k ∷ ms) (y ∷ xs)) same ∙ ap (λ (z : List ℕ × NetPart). (length z.1.processes + 2) + pending ms xs) one
pending_met (New ∷ ms) (y ∷ xs) (suc s) x is at = let r = pending_met ms xs s x is at in omega arith
pending_met (Open ∷ ms) (y ∷ xs) (suc s) x is at = pending_met ms xs s x is at
pending_met (Done ∷ ms) (y ∷ xs) (suc s) x is at = pending_met ms xs s x is at

pending_done : (ms : List Mark) (xs : List (List ℕ × NetPart)) (s : ℕ) → slice_get ms s ≡ Some Open → pending (slice_set ms s Done) xs ≡ pending ms xs
pending_done [] xs s is = absurd (cc)
pending_done (m ∷ ms) [] zero is = refl
pending_done (m ∷ ms) [] (suc s) is = refl
pending_done (m ∷ ms) (y ∷ xs) zero is = let same : m ≡ Open = cc in ap (λ (k : Mark). pending (k ∷ ms) (y ∷ xs)) (sym same)
pending_done (New ∷ ms) (y ∷ xs) (suc s) is = ap (λ (n : ℕ). (length y.1.processes + 2) + n) (pending_done ms xs s is)
pending_done (Open ∷ ms) (y ∷ xs) (suc s) is = pending_done ms xs s is
pending_done (Done ∷ ms) (y ∷ xs) (suc s) is = pending_done ms xs s is

module _ (text : NetText) (marks : List Mark) (f : Spot) (fs : List Spot) where
  pub less_passed : f.next < length (part_at text f.subnet).processes → pending marks text.subnets + left text (forward text f ∷ fs) < pending marks text.subnets + left text (f ∷ fs)
  less_passed below = omega arith

  pub less_main : pending marks text.subnets + left text fs < pending marks text.subnets + left text (f ∷ fs)
  less_main = omega arith

  pub less_done : (s : ℕ) → slice_get marks s ≡ Some Open → pending (slice_set marks s Done) text.subnets + left text fs < pending marks text.subnets + left text (f ∷ fs)
  less_done s opens_ = let r = pending_done marks text.subnets s opens_ in omega arith

  pub less_inside : (s : ℕ) → IsNext text marks f s New → pending (slice_set marks s Open) text.subnets + left text (record { subnet = Some s; next = 0 } ∷ f ∷ fs) < pending marks text.subnets + left text (f ∷ fs)
  less_inside s next =
      let d : List ℕ × NetPart = ([], text.main) in
      let there = found text next.0.1 s next.2 in
      let at : slice_get text.subnets s ≡ Some (get_or text.subnets s d) = slice_get-get_or text.subnets s d there.below in
      let part : part_at text (Some s) ≡ (get_or text.subnets s d).1 = ap (λ (o : Option (List ℕ × NetPart)). option_map_or (λ (x : List ℕ × NetPart). x.1) o text.main) at in
      let size : length (part_at text (Some s)).processes ≡ length (get_or text.subnets s d).1.processes = ap (λ (p : NetPart). length p.processes) part in
      let r = pending_met marks text.subnets s (get_or text.subnets s d) next.3 at in
      omega arith
