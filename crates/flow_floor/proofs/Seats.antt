-- What stays where one seat steps.
use Rattle.std.proofs.Common.{◌≡◌, ◌≢◌, ℕ, List, [], ◌∷◌, get_or, set, sym, refl, ap, ◌∙◌, subst, Option, Some, None, slice_get, ⊎_elim}
use mathlib.Core.Logic.{dite}
use mathlib.Core.Option.{some, some-injective}
use native.Mathlib.Decide.{ℕ_discrete}
use lib.ListN.{get_elem?}
use Rattle.atomic_table.proofs.Lists.{at_set, set_here, set_else}
use Rattle.flow_machine.specs.Values.{BodyValue, NetValue}
use Rattle.flow_floor.specs.Law.{IsTaken, IsFree, Holds, Stands, SeenTrue, AllSeen, Beside, Knows}
use Rattle.flow_floor.specs.Made.{turns_by}
use Rattle.flow_floor.proofs.Functions.{put, put_here, put_else}
use Rattle.flow_floor.proofs.Lists.{at_inside, some_Some}
use Rattle.flow_floor.specs.declared.board.Sending.{Sending}
use Rattle.flow_floor.specs.declared.board.Receiving.{Receiving}
use Rattle.flow_floor.specs.declared.board.View.{View}
use Rattle.flow_floor.specs.declared.board.Look.{Look}
use Rattle.flow_floor.specs.Ends.{IsKept, IsSaid, Sends, Receives}
use Rattle.flow_floor.proofs.Cells.{St, Homes, state}

-- An end with the seat that is there.
abbrev pub seated : {E : Type 0} → ℕ → Option E → Option (ℕ × E)
seated id (Some x) = Some (id, x)
seated id None = None

module _ {K : Type 0} where
  pub seats_stay : (F : ℕ → View K → Type 0) (vs : List (View K)) (id : ℕ) (w : View K) → F id w → ((j : ℕ) (u : View K) → j ≢ id → get_elem? vs j ≡ some u → F j u)
      → (j : ℕ) (u : View K) → get_elem? (set vs id w) j ≡ some u → F j u
  seats_stay F vs id w mine others j u e = ⊎_elim (λ (t : (j ≡ id) × (w ≡ u)). subst (λ (x : ℕ × View K). F x.0 x.1) (λ i. (sym t.0 i, t.1 i)) mine)
      (λ (t : (j ≢ id) × (get_elem? vs j ≡ some u)). others j u t.0 t.1) (at_set vs id j w u e)

  -- A process of which only the words and homes that it needs stay, and what the stepping seat knows of it.
  pub stands_keep : (s : St K) (ws' : List ℕ) (hs' : Homes K) (id : ℕ) (v w : View K) (q : ℕ) (b : BodyValue K) (h : Option ℕ) → get_elem? s.views id ≡ some v
      → (IsFree (get_or s.words q 0) → IsFree (get_or ws' q 0)) → (IsTaken (get_or s.words q 0) → IsTaken (get_or ws' q 0)) → get_elem? hs' q ≡ get_elem? s.homes q → (v.held ≡ Some (q, b) → w.held ≡ Some (q, b))
      → Stands s q b h → Stands (state ws' hs' (set s.views id w)) q b h
  stands_keep s ws' hs' id v w q b None at free taken home keep k = (free k.0, home ∙ k.1)
  stands_keep s ws' hs' id v w q b (Some j) at free taken home keep k = dite (ℕ_discrete j id)
      (λ e. let was : v ≡ k.1.0 = some-injective v k.1.0 (sym at ∙ (ap (get_elem? s.views) (sym e) ∙ k.1.1)) in
      (taken k.0, (w, ap (get_elem? (set s.views id w)) e ∙ set_here s.views id w (at_inside s.views id v at), keep (ap (λ (u : View K). u.held) was ∙ k.1.2))))
      (λ other. (taken k.0, (k.1.0, set_else s.views id j w other ∙ k.1.1, k.1.2)))

  pub seen_keep : (n : ℕ) (now now' : NetValue K) (held held' : ℕ × BodyValue K) (seen : List Look) → ((look : Look) → SeenTrue n now held.1 look → SeenTrue n now' held'.1 look) → AllSeen n now (Some held) seen → AllSeen n now' (Some held') seen
  seen_keep n now now' held held' [] keep all = tt
  seen_keep n now now' held held' (look ∷ seen) keep all = (keep look all.0, seen_keep n now now' held held' seen keep all.1)

-- One kind of end: `place` says its connection, `part` where a view has it, and `may` which processes may be there.
module _ {K E : Type 0} (place : E → ℕ) (part : View K → Option E) (may : Option (ℕ × BodyValue K) → ℕ → Type 0) where
  abbrev pub EachSaid : List (View K) → (ℕ → Option (ℕ × E)) → Type 0
  EachSaid vs ends = (c j : ℕ) (x : E) → ends c ≡ Some (j, x) → IsSaid place part may vs c j x

  -- After a step of seat id, whose view is w then, the ends are these.
  pub record Stays (vs : List (View K)) (id : ℕ) (w : View K) (ends ends' : ℕ → Option (ℕ × E)) : Type 0 where
    pub said : EachSaid (set vs id w) ends'
    pub mine : IsKept place ends' id (part w)
    pub others : (j : ℕ) (o : Option E) → j ≢ id → IsKept place ends j o → IsKept place ends' j o

  said-keep : (vs : List (View K)) (id c j : ℕ) (v w : View K) (x : E) → get_elem? vs id ≡ some v → (part v ≡ Some x → place x ≡ c → (part w ≡ Some x) × (may v.held c → may w.held c)) → IsSaid place part may vs c j x → IsSaid place part may (set vs id w) c j x
  said-keep vs id c j v w x at keep k = dite (ℕ_discrete j id)
      (λ e. let was : v ≡ k.view = some-injective v k.view (sym at ∙ (ap (get_elem? vs) (sym e) ∙ k.there)) in
      let still = keep (ap part was ∙ k.says) k.here in
      record { view = w; there = ap (get_elem? (set vs id w)) e ∙ set_here vs id w (at_inside vs id v at); says = still.0; here = k.here; allowed = still.1 (subst (λ (u : View K). may u.held c) (sym was) k.allowed) })
      (λ other. record { view = k.view; there = set_else vs id j w other ∙ k.there; says = k.says; here = k.here; allowed = k.allowed })

  -- The seat's end stays.
  pub stays-same : (vs : List (View K)) (id : ℕ) (v w : View K) (ends : ℕ → Option (ℕ × E)) → get_elem? vs id ≡ some v → part w ≡ part v → ((c : ℕ) (x : E) → part v ≡ Some x → may v.held c → may w.held c) → EachSaid vs ends → IsKept place ends id (part v) → Stays vs id w ends ends
  stays-same vs id v w ends at same allowed said mine = record {
    said = λ c j x is. said-keep vs id c j v w x at (λ e here. (same ∙ e, allowed c x e)) (said c j x is);
    mine = subst (IsKept place ends id) (sym same) mine;
    others = λ j o other h. h;
  }

  -- The seat comes to the end of connection c, goes on there, or goes away, where no other seat is.
  pub stays-put : (vs : List (View K)) (id c : ℕ) (v w : View K) (new : Option E) (ends : ℕ → Option (ℕ × E)) → get_elem? vs id ≡ some v → EachSaid vs ends → ((j : ℕ) (x : E) → ends c ≡ Some (j, x) → j ≡ id) → ((x : E) → part v ≡ Some x → place x ≡ c)
      → ((x : E) → new ≡ Some x → (place x ≡ c) × may w.held c) → part w ≡ new → Stays vs id w ends (put ends c (seated id new))
  stays-put vs id c v w new ends at said alone was here is_new = record {
    said = λ d j x is. dite (ℕ_discrete d c)
        (λ e. at-c d j x e (sym (put_here ends c (seated id new)) ∙ (ap (put ends c (seated id new)) (sym e) ∙ is)) new refl)
        (λ other. said-keep vs id d j v w x at (λ e there. absurd (other (sym there ∙ was x e))) (said d j x (sym (put_else ends c (seated id new) d other) ∙ is)));
    mine = subst (IsKept place (put ends c (seated id new)) id) (sym is_new) (mine-end new refl);
    others = λ j x other h. theirs j x other h;
  }
    where
      at-c : (d j : ℕ) (x : E) → d ≡ c → seated id new ≡ Some (j, x) → (o : Option E) → new ≡ o → IsSaid place part may (set vs id w) d j x
      at-c d j x e is None o_is = let z : None ≡ Some (j, x) = ap (seated id) (sym o_is) ∙ is in absurd (cc)
      at-c d j x e is (Some y) o_is =
          let z : (id, y) ≡ (j, x) = some_Some (id, y) (j, x) (ap (seated id) (sym o_is) ∙ is) in
          let jd : j ≡ id = ap (λ (t : ℕ × E). t.0) (sym z) in
          let xy : y ≡ x = ap (λ (t : ℕ × E). t.1) z in
          let new_x : new ≡ Some x = o_is ∙ ap (λ (t : E). let r : Option E = Some t in r) xy in
          let k = here x new_x in
          record { view = w; there = ap (get_elem? (set vs id w)) jd ∙ set_here vs id w (at_inside vs id v at); says = is_new ∙ new_x; here = k.0 ∙ sym e; allowed = subst (may w.held) (sym e) k.1 }

      mine-end : (o : Option E) → new ≡ o → IsKept place (put ends c (seated id new)) id o
      mine-end None o_is = tt
      mine-end (Some x) o_is = ap (put ends c (seated id new)) (here x o_is).0 ∙ put_here ends c (seated id new) ∙ ap (seated id) o_is

      theirs : (j : ℕ) (o : Option E) → j ≢ id → IsKept place ends j o → IsKept place (put ends c (seated id new)) j o
      theirs j None other h = tt
      theirs j (Some x) other h = put_else ends c (seated id new) (place x) (λ e. other (alone j x (ap ends (sym e) ∙ h))) ∙ h

abbrev pub sending-place : Sending → ℕ
sending-place x = x.connection

abbrev pub receiving-place : Receiving → ℕ
receiving-place y = y.connection

module _ {K : Type 0} where
  -- After a step of seat id, whose view is w then, all ends are these.
  abbrev pub SendersStay : St K → ℕ → View K → (ℕ → Option (ℕ × Sending)) → (ℕ → Option (ℕ × Sending)) → Type 0
  SendersStay s id w senders senders' = Stays sending-place (λ (v : View K). v.sending) Sends s.views id w senders senders'

  abbrev pub ReceiversStay : St K → ℕ → View K → (ℕ → Option (ℕ × Receiving)) → (ℕ → Option (ℕ × Receiving)) → Type 0
  ReceiversStay s id w receivers receivers' = Stays receiving-place (λ (v : View K). v.receiving) Receives s.views id w receivers receivers'

  -- What another seat knows stays so.
  pub knows_keep : (s : St K) (id : ℕ) (w : View K) (g g' : Beside K) (n first j : ℕ) (u : View K) → j ≢ id → SendersStay s id w g.senders g'.senders → ReceiversStay s id w g.receivers g'.receivers
      → ((q : ℕ) (b : BodyValue K) → g.holder q ≡ Some j → slice_get g.now.bodies q ≡ Some b → (g'.holder q ≡ Some j) × (slice_get g'.now.bodies q ≡ Some b))
      → ((q : ℕ) (b : BodyValue K) (look : Look) → g.holder q ≡ Some j → slice_get g.now.bodies q ≡ Some b → SeenTrue n g.now b look → SeenTrue n g'.now b look)
      → turns_by j first g'.by g'.log ≡ turns_by j first g.by g.log → Knows g n first j u → Knows g' n first j u
  knows_keep s id w g g' n first j u other sending receiving process look made k = record {
    holds = holds u.held k.holds;
    sending = sending.others j u.sending other k.sending;
    receiving = receiving.others j u.receiving other k.receiving;
    idle = k.idle;
    made = k.made ∙ sym made;
    seen = seen u.held k.holds k.seen;
  }
    where
      holds : (h : Option (ℕ × BodyValue K)) → Holds g.holder g.now j h → Holds g'.holder g'.now j h
      holds None e = tt
      holds (Some held) e = process held.0 held.1 e.0 e.1

      seen : (h : Option (ℕ × BodyValue K)) → Holds g.holder g.now j h → AllSeen n g.now h u.seen → AllSeen n g'.now h u.seen
      seen None e all = tt
      seen (Some held) e all = seen_keep n g.now g'.now held held u.seen (λ l. look held.0 held.1 l e.0 e.1) all
