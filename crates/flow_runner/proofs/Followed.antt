-- What a worker popped and pushed that has passes of several lines, call after call.
use Rattle.std.proofs.Common.{◌≡◌, ◌≢◌, ◌==◌, ◌⊎◌, ℕ, zero, suc, ◌<◌, Bool, true, false, cond, List, [], ◌∷◌, ◌++◌, All, Option, Some, None, length, get_or, set, get_or-set_same, get_or-set_other, refl, sym, ap, subst, ◌∙◌, arith, append-nil, append_assoc, inl, inr, length-set}
use Rattle.std.specs.Prelude.{MatchOption}
use Rattle.std.proofs.lemmas.Bool.{cases_eq, eq-eqb, ne_eqb}
use Rattle.std.proofs.lemmas.List.{map-append}
use Rattle.std.proofs.lemmas.List.Elements.{All-append}
use Rattle.flow_floor.specs.Floors.{asked_of, readied_of}
use Rattle.flow_runner.specs.declared.line.LinePass.{LinePass}
use Rattle.flow_runner.specs.declared.lines.Post.{Post}
use Rattle.flow_runner.specs.declared.server.Server.{Server}
use Rattle.flow_runner.specs.Lines.{parts_of, pops_of, pushes_of, IsPassAt}
use Rattle.flow_runner.specs.Posts.{popped_at, popped_from_all, ArePassesAt, FollowsAll, PopAll, PopOne, PushesHome}
use Rattle.flow_runner.specs.Serving.{GrowAlike, KeepsPass}
use Rattle.flow_runner.proofs.Serves.{grow-none, grow-then, keeps-then}

-- Pops, and more pops behind them.
popped-append : (i : ℕ) (xs ys : List (ℕ × ℕ)) → popped_at i (xs ++ ys) ≡ popped_at i xs ++ popped_at i ys
popped-append i [] ys = refl
popped-append i (x ∷ xs) ys = by (x.0 == i) (popped-append i xs ys)
  where
    by : (b : Bool) → popped_at i (xs ++ ys) ≡ popped_at i xs ++ popped_at i ys → cond b (x.1 ∷ popped_at i (xs ++ ys)) (popped_at i (xs ++ ys)) ≡ cond b (x.1 ∷ popped_at i xs) (popped_at i xs) ++ popped_at i ys
    by true rest = ap (λ zs. x.1 ∷ zs) rest
    by false rest = rest

-- One pop, from this line.
popped-here : (i k q : ℕ) → k ≡ i → popped_at k ((i, q) ∷ []) ≡ q ∷ []
popped-here i k q same = ap (λ b. cond b (q ∷ []) []) (eq-eqb i k (sym same))

-- One pop, from another line.
popped-elsewhere : (i k q : ℕ) → k ≢ i → popped_at k ((i, q) ∷ []) ≡ []
popped-elsewhere i k q other = ap (λ b. cond b (q ∷ []) []) (ne_eqb i k (λ same. other (sym same)))

all-none : (P : ℕ × ℕ → Type 0) → All P []
all-none P k d lt = absurd (omega (arith, lt))

all-one : (P : ℕ × ℕ → Type 0) (x : ℕ × ℕ) → P x → All P (x ∷ [])
all-one P x is zero d lt = is
all-one P x is (suc k) d lt = absurd (omega (arith, lt))

some_post : (posts : List Post) (n : ℕ) → n < length posts → Post
some_post [] n lt = absurd (omega (arith, lt))
some_post (post ∷ posts) n lt = post

module _ (posts : List Post) where
  -- Nothing was popped.
  pub pop-none : (ps : List LinePass) → ArePassesAt posts ps → PopAll posts ps [] ps
  pop-none ps at = record {
    count = refl;
    lines = all-none (λ p. p.0 < length posts);
    passes = λ i d e lt. (at.each i d e lt, refl);
    pops = λ i e lt. sym (append-nil (pops_of (get_or ps i e)));
    pushes = λ i e lt. refl;
  }

  -- One pass popped what is listed, and all from its line.
  pop-set : (ps : List LinePass) (i : ℕ) (p : LinePass) (popped : List (ℕ × ℕ)) → ArePassesAt posts ps → i < length posts → All (λ (x : ℕ × ℕ). x.0 < length posts) popped
      → ((k : ℕ) → k ≢ i → popped_at k popped ≡ [])
      → ((d : Post) (e : LinePass) → KeepsPass (get_or posts i d).line (get_or ps i e) p)
      → ((e : LinePass) → pops_of p ≡ pops_of (get_or ps i e) ++ popped_at i popped)
      → ((e : LinePass) → pushes_of p ≡ pushes_of (get_or ps i e))
      → PopAll posts ps popped (set ps i p)
  pop-set ps i p popped at within lines elsewhere keeps pops pushes = record {
    count = length-set ps i p;
    lines = lines;
    passes = λ k d e lt. by_passes k d e lt (cases_eq k i);
    pops = λ k e lt. by_pops k e lt (cases_eq k i);
    pushes = λ k e lt. by_pushes k e lt (cases_eq k i);
  }
    where
      inside : i < length ps
      inside = omega (arith, within, at.count)

      here : (k : ℕ) (e : LinePass) → k ≡ i → get_or (set ps i p) k e ≡ p
      here k e same = ap (λ j. get_or (set ps i p) j e) same ∙ get_or-set_same ps i p e inside

      by_passes : (k : ℕ) (d : Post) (e : LinePass) → k < length posts → (k ≡ i) ⊎ (k ≢ i) → KeepsPass (get_or posts k d).line (get_or ps k e) (get_or (set ps i p) k e)
      by_passes k d e lt (inl same) = subst (λ q. KeepsPass (get_or posts k d).line (get_or ps k e) q) (sym (here k e same)) (subst (λ j. KeepsPass (get_or posts j d).line (get_or ps j e) p) (sym same) (keeps d e))
      by_passes k d e lt (inr other) = subst (λ q. KeepsPass (get_or posts k d).line (get_or ps k e) q) (sym (get_or-set_other ps i k p e other)) (at.each k d e lt, refl)

      by_pops : (k : ℕ) (e : LinePass) → k < length posts → (k ≡ i) ⊎ (k ≢ i) → pops_of (get_or (set ps i p) k e) ≡ pops_of (get_or ps k e) ++ popped_at k popped
      by_pops k e lt (inl same) = ap pops_of (here k e same) ∙ subst (λ j. pops_of p ≡ pops_of (get_or ps j e) ++ popped_at j popped) (sym same) (pops e)
      by_pops k e lt (inr other) = ap pops_of (get_or-set_other ps i k p e other) ∙ sym (append-nil (pops_of (get_or ps k e))) ∙ ap (λ zs. pops_of (get_or ps k e) ++ zs) (sym (elsewhere k other))

      by_pushes : (k : ℕ) (e : LinePass) → k < length posts → (k ≡ i) ⊎ (k ≢ i) → pushes_of (get_or (set ps i p) k e) ≡ pushes_of (get_or ps k e)
      by_pushes k e lt (inl same) = ap pushes_of (here k e same) ∙ subst (λ j. pushes_of p ≡ pushes_of (get_or ps j e)) (sym same) (pushes e)
      by_pushes k e lt (inr other) = ap pushes_of (get_or-set_other ps i k p e other)

  -- A pass looked, and popped nothing.
  pub pop-looked : (ps : List LinePass) (i : ℕ) (p : LinePass) → ArePassesAt posts ps → i < length posts → ((d : Post) (e : LinePass) → KeepsPass (get_or posts i d).line (get_or ps i e) p) → ((e : LinePass) → pops_of p ≡ pops_of (get_or ps i e)) → ((e : LinePass) → pushes_of p ≡ pushes_of (get_or ps i e))
      → PopOne posts ps None (set ps i p)
  pop-looked ps i p at within keeps pops pushes = pop-set ps i p [] at within (all-none (λ x. x.0 < length posts)) (λ k other. refl) keeps (λ e. pops e ∙ sym (append-nil (pops_of (get_or ps i e)))) pushes

  -- It popped this process.
  pub pop-found : (ps : List LinePass) (i : ℕ) (p : LinePass) (process : ℕ) → ArePassesAt posts ps → i < length posts → ((d : Post) (e : LinePass) → KeepsPass (get_or posts i d).line (get_or ps i e) p) → ((e : LinePass) → pops_of p ≡ pops_of (get_or ps i e) ++ process ∷ []) → ((e : LinePass) → pushes_of p ≡ pushes_of (get_or ps i e))
      → PopOne posts ps (Some process) (set ps i p)
  pop-found ps i p process at within keeps pops pushes = (i, pop-set ps i p ((i, process) ∷ []) at within (all-one (λ x. x.0 < length posts) (i, process) within) (λ k other. popped-elsewhere i k process other) keeps (λ e. pops e ∙ ap (λ zs. pops_of (get_or ps i e) ++ zs) (sym (popped-here i i process refl))) pushes)

  -- What a pop of the pass of a line tells.
  pub pop-tells : (X : Type 0) (Y Z : ℕ → Type 0) (ps : List LinePass) (i : ℕ) (old p : LinePass) (result : Option ℕ) → ArePassesAt posts ps → i < length posts → ((d : Post) → IsPassAt (get_or posts i d).line p) → parts_of p ≡ parts_of old → ((e : LinePass) → old ≡ get_or ps i e)
      → MatchOption result ((pushes_of p ≡ pushes_of old) × (pops_of p ≡ pops_of old) × X) (λ q. Y q × (pushes_of p ≡ pushes_of old) × (pops_of p ≡ pops_of old ++ q ∷ []) × Z q)
      → PopOne posts ps result (set ps i p)
  pop-tells X Y Z ps i old p None at within is parts here told = pop-looked ps i p at within (λ d e. (is d, parts ∙ ap parts_of (here e))) (λ e. told.1 ∙ ap pops_of (here e)) (λ e. told.0 ∙ ap pushes_of (here e))
  pop-tells X Y Z ps i old p (Some q) at within is parts here told = pop-found ps i p q at within (λ d e. (is d, parts ∙ ap parts_of (here e))) (λ e. told.2 ∙ ap (λ o. pops_of o ++ q ∷ []) (here e)) (λ e. told.1 ∙ ap pushes_of (here e))

  -- Pops, and more pops behind them.
  pub pop-then : (ps qs rs : List LinePass) (xs ys : List (ℕ × ℕ)) → PopAll posts ps xs qs → PopAll posts qs ys rs → PopAll posts ps (xs ++ ys) rs
  pop-then ps qs rs xs ys a b = record {
    count = b.count ∙ a.count;
    lines = All-append (λ (p : ℕ × ℕ). p.0 < length posts) xs ys a.lines b.lines;
    passes = λ i d e lt. keeps-then (get_or posts i d).line (get_or ps i e) (get_or qs i e) (get_or rs i e) (a.passes i d e lt) (b.passes i d e lt);
    pops = λ i e lt. b.pops i e lt ∙ ap (λ zs. zs ++ popped_at i ys) (a.pops i e lt) ∙ append_assoc (pops_of (get_or ps i e)) (popped_at i xs) (popped_at i ys) ∙ ap (λ zs. pops_of (get_or ps i e) ++ zs) (sym (popped-append i xs ys));
    pushes = λ i e lt. b.pushes i e lt ∙ a.pushes i e lt;
  }

  -- Nothing, and then a process or nothing.
  pub pop-on : (ps qs rs : List LinePass) (result : Option ℕ) → PopAll posts ps [] qs → PopOne posts qs result rs → PopOne posts ps result rs
  pop-on ps qs rs None a b = pop-then ps qs rs [] [] a b
  pop-on ps qs rs (Some process) a b = (b.0, pop-then ps qs rs [] ((b.0, process) ∷ []) a b.1)

  module _ {K : Type 0} where
    -- It asked for nothing and made nothing ready, and found nothing.
    pub all-rested : (s s' : Server K) → s'.watch.number ≡ s.watch.number → asked_of s'.worker ≡ asked_of s.worker → readied_of s'.worker ≡ readied_of s.worker → PopAll posts s.passes.items [] s'.passes.items → s.watch.number < length posts → FollowsAll posts s s'
    all-rested s s' home asked readied found own = record {
      home = home;
      count = found.count;
      passes = found.passes;
      popped = [];
      lines = found.lines;
      asked = asked ∙ sym (append-nil (asked_of s.worker));
      pops = found.pops;
      readied = λ e. grow-none (readied_of s.worker) (readied_of s'.worker) (pushes_of (get_or s.passes.items s.watch.number e)) (pushes_of (get_or s'.passes.items s.watch.number e)) readied (found.pushes s.watch.number e own);
      others = λ i e lt other. found.pushes i e lt;
    }

    -- It popped a process, and tended it.
    pub all-tended : (s t u : Server K) (process : ℕ) → t.watch.number ≡ s.watch.number → s.watch.number < length posts → t.worker ≡ s.worker → PopOne posts s.passes.items (Some process) t.passes.items → asked_of u.worker ≡ asked_of t.worker ++ process ∷ [] → PushesHome posts t u → FollowsAll posts s u
    all-tended s t u process home within same found asked pushes = record {
      home = pushes.home ∙ home;
      count = pushes.count ∙ f.count;
      passes = λ i d e lt. keeps-then (get_or posts i d).line (get_or ps i e) (get_or qs i e) (get_or rs i e) (f.passes i d e lt) (kept i d e lt (cases_eq i n));
      popped = (found.0, process) ∷ [];
      lines = f.lines;
      asked = asked ∙ ap (λ w. asked_of w ++ process ∷ []) same;
      pops = λ i e lt. pops i e (cases_eq i n) ∙ f.pops i e lt;
      readied = λ e. readied e;
      others = λ i e lt other. ap pushes_of (pushes.others i e (λ at. other (at ∙ home))) ∙ f.pushes i e lt;
    }
      where
        n : ℕ
        n = t.watch.number

        f : PopAll posts s.passes.items ((found.0, process) ∷ []) t.passes.items
        f = found.1

        ps : List LinePass
        ps = s.passes.items

        qs : List LinePass
        qs = t.passes.items

        rs : List LinePass
        rs = u.passes.items

        kept : (i : ℕ) (d : Post) (e : LinePass) → i < length posts → (i ≡ n) ⊎ (i ≢ n) → KeepsPass (get_or posts i d).line (get_or qs i e) (get_or rs i e)
        kept i d e lt (inl at) = subst (λ j. KeepsPass (get_or posts j d).line (get_or qs j e) (get_or rs j e)) (sym at) (pushes.pushes d e).pass
        kept i d e lt (inr other) = let p = f.passes i d e lt in subst (λ q. KeepsPass (get_or posts i d).line (get_or qs i e) q) (sym (pushes.others i e other)) (p.0, refl)

        post : Post
        post = some_post posts s.watch.number within

        readied : (e : LinePass) → GrowAlike (readied_of s.worker) (readied_of u.worker) (pushes_of (get_or ps s.watch.number e)) (pushes_of (get_or rs s.watch.number e))
        readied e = let r = (pushes.pushes post e).readied in record {
          more = r.more;
          first = r.first ∙ ap (λ w. readied_of w ++ r.more) same;
          second = subst (λ j. pushes_of (get_or rs j e) ≡ pushes_of (get_or qs j e) ++ r.more) home r.second ∙ ap (λ zs. zs ++ r.more) (f.pushes s.watch.number e within);
        }

        pops : (i : ℕ) (e : LinePass) → (i ≡ n) ⊎ (i ≢ n) → pops_of (get_or rs i e) ≡ pops_of (get_or qs i e)
        pops i e (inl at) = subst (λ j. pops_of (get_or rs j e) ≡ pops_of (get_or qs j e)) (sym at) (pushes.pushes post e).popped
        pops i e (inr other) = ap pops_of (pushes.others i e other)

    pub all-then : (s t u : Server K) → FollowsAll posts s t → FollowsAll posts t u → FollowsAll posts s u
    all-then s t u a b = record {
      home = b.home ∙ a.home;
      count = b.count ∙ a.count;
      passes = λ i d e lt. keeps-then (get_or posts i d).line (get_or ps i e) (get_or qs i e) (get_or rs i e) (a.passes i d e lt) (b.passes i d e lt);
      popped = a.popped ++ b.popped;
      lines = All-append (λ (p : ℕ × ℕ). p.0 < length posts) a.popped b.popped a.lines b.lines;
      asked = b.asked ∙ ap (λ zs. zs ++ popped_from_all b.popped) a.asked ∙ append_assoc (asked_of s.worker) (popped_from_all a.popped) (popped_from_all b.popped) ∙ ap (λ zs. asked_of s.worker ++ zs) (sym (map-append (λ (p : ℕ × ℕ). p.1) a.popped b.popped));
      pops = λ i e lt. b.pops i e lt ∙ ap (λ zs. zs ++ popped_at i b.popped) (a.pops i e lt) ∙ append_assoc (pops_of (get_or ps i e)) (popped_at i a.popped) (popped_at i b.popped) ∙ ap (λ zs. pops_of (get_or ps i e) ++ zs) (sym (popped-append i a.popped b.popped));
      readied = λ e. grow-then (readied_of s.worker) (readied_of t.worker) (readied_of u.worker) (pushes_of (get_or ps n e)) (pushes_of (get_or qs n e)) (pushes_of (get_or rs n e)) (a.readied e) (subst (λ j. GrowAlike (readied_of t.worker) (readied_of u.worker) (pushes_of (get_or qs j e)) (pushes_of (get_or rs j e))) a.home (b.readied e));
      others = λ i e lt other. b.others i e lt (λ at. other (at ∙ a.home)) ∙ a.others i e lt other;
    }
      where
        n : ℕ
        n = s.watch.number

        ps : List LinePass
        ps = s.passes.items

        qs : List LinePass
        qs = t.passes.items

        rs : List LinePass
        rs = u.passes.items

    -- Nothing was done.
    pub all-same : (s : Server K) → ArePassesAt posts s.passes.items → s.watch.number < length posts → FollowsAll posts s s
    all-same s at own = all-rested s s refl refl refl (pop-none s.passes.items at) own
