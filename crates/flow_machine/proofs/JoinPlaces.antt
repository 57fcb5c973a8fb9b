-- Which packets were dropped, from what was made and what is left; and channels as the machine keeps them.
use Rattle.std.proofs.Common.{◌≡◌, ℕ, ◌+◌, ◌-◌, ◌^◌, ◌<◌, ◌≤◌, min, Bool, true, false, cond, List, [], ◌∷◌, ◌++◌, length, map, Some, suc, zero, refl, ap, sym, ◌∙◌, arith, nat_eq, slice_get, take, drop, length-append, length-drop}
use Rattle.std.specs.Prelude.{filter, sum_by}
use Rattle.std.proofs.lemmas.Bool.Decides.{nat_tests}
use Rattle.std.proofs.lemmas.List.{take-append-drop}
use Rattle.std.proofs.lemmas.List.Sums.{sum_by-cons}
use Rattle.flow_packet.specs.Ids.{times}
use Rattle.flow_packet.specs.Tree.{all_ids}
use Rattle.flow_packet.proofs.Counts.{times-append}
use Rattle.flow_plan.specs.declared.plan.Connection.{Connection}
use Rattle.flow_model.specs.States.{Process, Channel, Put}
use Rattle.flow_model.specs.Places.{dropped_total, transit_count}
use Rattle.flow_model.specs.Stands.{ChannelShown, show_channel, bodies_from, channels_from}
use Rattle.flow_model.proofs.Drops.{length-times}
use Rattle.flow_machine.specs.Values.{BodyValue, shown_body}
use Rattle.flow_machine.specs.Joins.{processes_of, senders_so, is_so_at, closes_later, leaves_open}
use Rattle.flow_machine.proofs.JoinSenders.{picked}

times-filter : (f : ℕ → Bool) (x : ℕ) (xs : List ℕ) → times x (filter f xs) ≡ cond (f x) (times x xs) 0
times-filter f x [] = by (f x)
  where
    by : (b : Bool) → ◌≡◌ {A = ℕ} 0 (cond b 0 0)
    by true = refl
    by false = refl
times-filter f x (y ∷ ys) = by (times-filter f x ys) (f y) (nat_eq y x) refl refl
  where
    same-f : (a b : Bool) → f y ≡ a → y ≡ x → f x ≡ a
    same-f a b h e = ap f (sym e) ∙ h

    more-one : (b : Bool) → times x (filter f ys) ≡ cond b (times x ys) 0 → 0 + times x (filter f ys) ≡ cond b (0 + times x ys) 0
    more-one true r = omega (arith, r)
    more-one false r = omega (arith, r)

    more-none : (b : Bool) → times x (filter f ys) ≡ cond b (times x ys) 0 → times x (filter f ys) ≡ cond b (0 + times x ys) 0
    more-none true r = omega (arith, r)
    more-none false r = r

    by : times x (filter f ys) ≡ cond (f x) (times x ys) 0 → (a b : Bool) → f y ≡ a → nat_eq y x ≡ b → times x (cond a (y ∷ filter f ys) (filter f ys)) ≡ cond (f x) (times x (y ∷ ys)) 0
    by rest true true h k = let e : y ≡ x = grind (arith, nat_tests) in let fx : f x ≡ true = same-f true true h e in let rest' : times x (filter f ys) ≡ times x ys = rw fx at rest in rw (fx, k) (omega (arith, rest'))
    by rest true false h k = rw k (more-one (f x) rest)
    by rest false true h k = let e : y ≡ x = grind (arith, nat_tests) in let fx : f x ≡ false = same-f false true h e in let rest' : times x (filter f ys) ≡ 0 = rw fx at rest in rw fx rest'
    by rest false false h k = rw k (more-none (f x) rest)

-- those that were made and are nowhere
abbrev pub missing : List ℕ → List ℕ → List ℕ
missing made left = filter (λ id. nat_eq (times id left) 0) made

-- An id that was made is left or missing.
pub missing-times : (made left : List ℕ) (id : ℕ) → times id left ≤ times id made → times id made ≤ 1 → times id (missing made left) + times id left ≡ times id made
missing-times made left id less one = by (nat_eq (times id left) 0) refl (times-filter (λ x. nat_eq (times x left) 0) id made)
  where
    by : (b : Bool) → nat_eq (times id left) 0 ≡ b → times id (missing made left) ≡ cond b (times id made) 0 → times id (missing made left) + times id left ≡ times id made
    by true h is = let none : times id left ≡ 0 = grind (arith, nat_tests) in omega (arith, is, none)
    by false h is = let some : 0 < times id left = grind (arith, nat_tests) in omega (arith, is, some, less, one)

-- As many are missing as were made and aren't left.
pub missing-length : (made left : List ℕ) → ((id : ℕ) → times id left ≤ times id made) → ((id : ℕ) → times id made ≤ 1) → length (missing made left) + length left ≡ length made
missing-length made left less one =
    sym (length-append (missing made left) left) ∙ length-times (missing made left ++ left) made (λ id. times-append id (missing made left) left ∙ missing-times made left id (less id) (one id))

-- a list in pieces of these lengths
abbrev pub cut : List ℕ → List ℕ → ℕ → List ℕ
cut [] xs p = []
cut (d ∷ ds) xs zero = take d xs
cut (d ∷ ds) xs (suc p) = cut ds (drop d xs) p

abbrev sum_of : List ℕ → ℕ
sum_of ds = sum_by (λ d. d) ds

total-shift : (id : ℕ) (f : ℕ → List ℕ) (n : ℕ) → dropped_total id f (suc n) ≡ times id (f 0) + dropped_total id (λ p. f (suc p)) n
total-shift id f zero = omega arith
total-shift id f (suc n) = omega (arith, total-shift id f n)

no-more : (xs : List ℕ) → length xs ≡ 0 → xs ≡ []
no-more [] is = refl
no-more (x ∷ xs) is = absurd (omega (arith, is))

taken-length : (d : ℕ) (xs : List ℕ) → d ≤ length xs → length (take d xs) ≡ d
taken-length zero xs fits = refl
taken-length (suc d) [] fits = absurd (omega (arith, fits))
taken-length (suc d) (x ∷ xs) fits = omega (arith, taken-length d xs (omega (arith, fits)))

-- A list that is cut into pieces has each id as often as before.
pub cut-total : (id : ℕ) (ds xs : List ℕ) → sum_by (λ (d : ℕ). d) ds ≡ length xs → dropped_total id (cut ds xs) (length ds) ≡ times id xs
cut-total id [] xs all = ap (times id) (sym (no-more xs (sym all)))
cut-total id (d ∷ ds) xs all =
    let cons = sum_by-cons (λ (x : ℕ). x) d ds in
    let rest = cut-total id ds (drop d xs) (omega (arith, cons, all, length-drop d xs)) in
    total-shift id (cut (d ∷ ds) xs) (length ds) ∙ omega (arith, rest, times-append id (take d xs) (drop d xs)) ∙ ap (times id) (take-append-drop d xs)

-- Each piece is as long as it was asked for.
pub cut-length : (ds xs : List ℕ) (p d : ℕ) → sum_by (λ (x : ℕ). x) ds ≡ length xs → slice_get ds p ≡ Some d → length (cut ds xs p) ≡ d
cut-length [] xs p d all is = absurd (cc)
cut-length (e ∷ ds) xs zero d all is = let same : e ≡ d = cc in taken-length e xs (omega (arith, all, sum_by-cons (λ (x : ℕ). x) e ds)) ∙ same
cut-length (e ∷ ds) xs (suc p) d all is = cut-length ds (drop e xs) p d (omega (arith, all, sum_by-cons (λ (x : ℕ). x) e ds, length-drop e xs)) is

-- what is shown of bodies
pub bodies-shown : {K : Type 0} (dropped : ℕ → List ℕ) (k : ℕ) (bodies : List (BodyValue K)) → ((p : ℕ) (b : BodyValue K) → slice_get bodies p ≡ Some b → b.dropped ≡ min (length (dropped (k + p))) (2 ^ 64 - 1)) → map shown_body bodies ≡ bodies_from dropped k (processes_of bodies)
bodies-shown dropped k [] each = refl
bodies-shown {K} dropped k (b ∷ bodies) each =
    let z : k + zero ≡ k = omega arith in
    let here : b.dropped ≡ min (length (dropped k)) (2 ^ 64 - 1) = each zero b refl ∙ ap (λ (n : ℕ). min (length (dropped n)) (2 ^ 64 - 1)) z in
    let rest = bodies-shown dropped (k + 1) bodies (λ p x is. each (suc p) x is ∙ (let e : k + suc p ≡ k + 1 + p = omega arith in ap (λ (n : ℕ). min (length (dropped n)) (2 ^ 64 - 1)) e)) in
    λ i. record { process = b.process; dropped = here i } ∷ rest i

module _ {K : Type 0} (processes : List (Process K)) where
  abbrev pub channel_of : Connection → ChannelShown → Channel
  channel_of x k = record {
    packets = k.packets;
    capacity = k.capacity;
    open_senders = picked (λ s. is_so_at closes_later s.output (slice_get processes s.process)) (λ s. is_so_at leaves_open s.output (slice_get processes s.process)) x.senders (k.open_senders - senders_so closes_later processes x.senders);
  }

  abbrev pub channels_of : List Connection → List ChannelShown → List Channel
  channels_of [] ks = []
  channels_of (x ∷ xs) [] = []
  channels_of (x ∷ xs) (k ∷ ks) = channel_of x k ∷ channels_of xs ks

  pub channels-there : (xs : List Connection) (ks : List ChannelShown) (c : ℕ) (x : Connection) (k : ChannelShown) → slice_get xs c ≡ Some x → slice_get ks c ≡ Some k → slice_get (channels_of xs ks) c ≡ Some (channel_of x k)
  channels-there [] ks c x k is at = absurd (cc)
  channels-there (y ∷ xs) [] c x k is at = absurd (cc)
  channels-there (y ∷ xs) (l ∷ ks) zero x k is at = let e : y ≡ x = cc in let f : l ≡ k = cc in λ i. Some (channel_of (e i) (f i))
  channels-there (y ∷ xs) (l ∷ ks) (suc c) x k is at = channels-there xs ks c x k is at

  pub channels-from : (xs : List Connection) (ks : List ChannelShown) (c : ℕ) (ch : Channel) → slice_get (channels_of xs ks) c ≡ Some ch → (x : Connection) × (k : ChannelShown) × (slice_get xs c ≡ Some x) × (slice_get ks c ≡ Some k) × (channel_of x k ≡ ch)
  channels-from [] ks c ch is = absurd (cc)
  channels-from (y ∷ xs) [] c ch is = absurd (cc)
  channels-from (y ∷ xs) (l ∷ ks) zero ch is = (y, l, refl, refl, (let h : channel_of y l ≡ ch = cc in h))
  channels-from (y ∷ xs) (l ∷ ks) (suc c) ch is = channels-from xs ks c ch is

  pub channels-shown : (put : ℕ → List Put) (n : ℕ) (xs : List Connection) (ks : List ChannelShown) → length ks ≡ length xs
      → ((c : ℕ) (x : Connection) (k : ChannelShown) → slice_get xs c ≡ Some x → slice_get ks c ≡ Some k → k ≡ show_channel put (n + c) (channel_of x k)) → ks ≡ channels_from put n (channels_of xs ks)
  channels-shown put n [] [] len each = refl
  channels-shown put n (x ∷ xs) [] len each = absurd (omega (arith, len))
  channels-shown put n [] (k ∷ ks) len each = absurd (omega (arith, len))
  channels-shown put n (x ∷ xs) (k ∷ ks) len each =
      let z : n + zero ≡ n = omega arith in
      let here : k ≡ show_channel put n (channel_of x k) = each zero x k refl refl ∙ ap (λ (m : ℕ). show_channel put m (channel_of x k)) z in
      let rest = channels-shown put (n + 1) xs ks (omega (arith, len)) (λ c y l is at. each (suc c) y l is at ∙ (let e : n + suc c ≡ n + 1 + c = omega arith in ap (λ (m : ℕ). show_channel put m (channel_of y l)) e)) in
      λ i. here i ∷ rest i

  pub transit-of : (id : ℕ) (xs : List Connection) (ks : List ChannelShown) → length ks ≡ length xs → transit_count id (channels_of xs ks) ≡ sum_by (λ (k : ChannelShown). times id (all_ids k.packets)) ks
  transit-of id [] [] len = refl
  transit-of id (x ∷ xs) [] len = refl
  transit-of id [] (k ∷ ks) len = absurd (omega (arith, len))
  transit-of id (x ∷ xs) (k ∷ ks) len =
      omega (arith, transit-of id xs ks (omega (arith, len)), sum_by-cons (λ (ch : Channel). times id (all_ids ch.packets)) (channel_of x k) (channels_of xs ks), sum_by-cons (λ (l : ChannelShown). times id (all_ids l.packets)) k ks)
