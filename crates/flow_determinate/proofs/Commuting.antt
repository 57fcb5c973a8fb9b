-- What the turns of two processes change of connections and of the past, in either order.
use Rattle.std.proofs.Common.{◌≡◌, ◌≢◌, ℕ, Bool, true, false, List, [], ◌∷◌, ◌++◌, append-nil, Option, Some, None, refl, sym, ap, ◌∙◌, subst, cond, nat_eq, arith, ◌⊎◌, inl, inr, slice_get, slice_set, zero, suc}
use Rattle.std.proofs.lemmas.Bool.Decides.{nat_tests}
use Rattle.flow_packet.specs.Tree.{Tree, ids}
use Rattle.flow_model.specs.States.{Channel, Put, Entry, entry_of, change_at, changed}
use Rattle.flow_model.specs.Events.{Event, Starts, Gets, Sends, Closes, Signals}
use Rattle.flow_model.specs.Turns.{channel_after, channels_after, signals_after, put_after, drops_after, add_at, ChangeAt, change_of, change_one}
use Rattle.flow_model.proofs.Lists.{slice_get-set_same, slice_get-set_other, same_or_not, change_at-some}
use Rattle.flow_determinate.proofs.Moves.{set-twice, one-of, dropped_then}

-- Lists that change at two places, or twice at one

pub set-commute : {A : Type 0} (xs : List A) (i k : ℕ) (a b : A) → i ≢ k → slice_set (slice_set xs i a) k b ≡ slice_set (slice_set xs k b) i a
set-commute [] i k a b ne = refl
set-commute (x ∷ xs) zero zero a b ne = absurd (ne refl)
set-commute (x ∷ xs) zero (suc k) a b ne = refl
set-commute (x ∷ xs) (suc i) zero a b ne = refl
set-commute (x ∷ xs) (suc i) (suc k) a b ne = ap (λ ys. x ∷ ys) (set-commute xs i k a b (λ e. ne (ap suc e)))

module _ {A : Type 0} (xs : List A) (c : ℕ) (f : A → A) where
  pub change-none : slice_get xs c ≡ None → change_at xs c f ≡ xs
  change-none is = ap (changed xs c f) is

  pub change-here : (x : A) → slice_get xs c ≡ Some x → slice_get (change_at xs c f) c ≡ Some (f x)
  change-here x is = ap (λ ys. slice_get ys c) (change_at-some xs c f x is) ∙ slice_get-set_same xs c x (f x) is

  pub change-other : (d : ℕ) → d ≢ c → slice_get (change_at xs c f) d ≡ slice_get xs d
  change-other d ne = by (slice_get xs c)
    where
      by : (found : Option A) → slice_get (changed xs c f found) d ≡ slice_get xs d
      by (Some x) = slice_get-set_other xs c d (f x) ne
      by None = refl

  -- changes at two places may come in either order
  pub change-commute : (d : ℕ) (g : A → A) → c ≢ d → change_at (change_at xs c f) d g ≡ change_at (change_at xs d g) c f
  change-commute d g ne = by (slice_get xs c) (slice_get xs d) refl refl
    where
      by : (at on : Option A) → slice_get xs c ≡ at → slice_get xs d ≡ on → changed (changed xs c f at) d g (slice_get (changed xs c f at) d) ≡ changed (changed xs d g on) c f (slice_get (changed xs d g on) c)
      by (Some x) (Some y) at on =
          ap (changed (slice_set xs c (f x)) d g) (slice_get-set_other xs c d (f x) (λ h. ne (sym h)) ∙ on)
          ∙ set-commute xs c d (f x) (g y) ne
          ∙ sym (ap (changed (slice_set xs d (g y)) c f) (slice_get-set_other xs d c (g y) ne ∙ at))
      by (Some x) None at on = ap (changed (slice_set xs c (f x)) d g) (slice_get-set_other xs c d (f x) (λ h. ne (sym h)) ∙ on) ∙ sym (ap (changed xs c f) at)
      by None (Some y) at on = ap (changed xs d g) on ∙ sym (ap (changed (slice_set xs d (g y)) c f) (slice_get-set_other xs d c (g y) ne ∙ at))
      by None None at on = ap (changed xs d g) on ∙ sym (ap (changed xs c f) at)

  -- two changes at one place that commute there
  pub change-same : (g : A → A) → ((x : A) → slice_get xs c ≡ Some x → g (f x) ≡ f (g x)) → change_at (change_at xs c f) c g ≡ change_at (change_at xs c g) c f
  change-same g same = by (slice_get xs c) refl
    where
      by : (at : Option A) → slice_get xs c ≡ at → changed (changed xs c f at) c g (slice_get (changed xs c f at) c) ≡ changed (changed xs c g at) c f (slice_get (changed xs c g at) c)
      by (Some x) at =
          ap (changed (slice_set xs c (f x)) c g) (slice_get-set_same xs c x (f x) at) ∙ set-twice xs c (f x) (g (f x)) ∙ ap (slice_set xs c) (same x at)
          ∙ sym (ap (changed (slice_set xs c (g x)) c f) (slice_get-set_same xs c x (g x) at) ∙ set-twice xs c (g x) (f (g x)))
      by None at = ap (changed xs c g) at ∙ sym (ap (changed xs c f) at)

-- The connection of a turn

-- The connection that a turn changes, if it changes one.
abbrev pub touched_by : Option ChangeAt → Option ℕ
touched_by (Some at) = Some at.connection
touched_by None = None

abbrev pub touches : Event → Option ℕ
touches e = touched_by (change_of e)

-- A connection after a turn of process p there.
abbrev pub changed_by : ℕ → Channel → Option ChangeAt → Channel
changed_by p channel (Some at) = channel_after p at.change channel
changed_by p channel None = channel

abbrev pub channel_by : ℕ → Channel → Event → Channel
channel_by p channel e = changed_by p channel (change_of e)

abbrev after_at : List Channel → ℕ → Event → Option ℕ → List Channel
after_at channels p e (Some c) = change_at channels c (λ channel. channel_by p channel e)
after_at channels p e None = channels

pub channels-at : (channels : List Channel) (p : ℕ) (e : Event) → channels_after channels p e ≡ after_at channels p e (touches e)
channels-at channels p e = by (change_of e) refl
  where
    by : (change : Option ChangeAt) → change_of e ≡ change → change_one (channel_after p) change channels ≡ after_at channels p e (touched_by change)
    by (Some at) is = ap (λ (change : Option ChangeAt). change_at channels at.connection (λ channel. changed_by p channel change)) (sym is)
    by None is = refl

-- What a turn at a connection is: a get, a send, a close, or a signal.
pub data Touching (e : Event) (c : ℕ) : Type 0 where
  gets : (port : ℕ) (packet : Tree) → e ≡ Gets port c packet → Touching e c
  sends : (port : ℕ) (packet : Tree) → e ≡ Sends port c packet → Touching e c
  closes : (output : ℕ) → e ≡ Closes output c → Touching e c
  signals : (packet : Tree) → e ≡ Signals c packet → Touching e c

pub touching : (e : Event) (c : ℕ) → touches e ≡ Some c → Touching e c
touching (Gets port d packet) c is = gets port packet (ap (λ k. Gets port k packet) (one-of d c is))
touching (Sends port d packet) c is = sends port packet (ap (λ k. Sends port k packet) (one-of d c is))
touching (Closes output d) c is = closes output (ap (Closes output) (one-of d c is))
touching (Signals d packet) c is = signals packet (ap (λ k. Signals k packet) (one-of d c is))
touching e c is = absurd (cc)

-- A connection after a turn of some process: as it was, or changed by the turn.
pub after-turn : (channels : List Channel) (p : ℕ) (e : Event) (c : ℕ) (channel : Channel) → slice_get channels c ≡ Some channel
    → (slice_get (channels_after channels p e) c ≡ Some channel) ⊎ ((touches e ≡ Some c) × (slice_get (channels_after channels p e) c ≡ Some (channel_by p channel e)))
after-turn channels p e c channel there = by (touches e) refl
  where
    by : (at : Option ℕ) → touches e ≡ at → (slice_get (channels_after channels p e) c ≡ Some channel) ⊎ ((touches e ≡ Some c) × (slice_get (channels_after channels p e) c ≡ Some (channel_by p channel e)))
    by None at = inl (ap (λ cs. slice_get cs c) (channels-at channels p e ∙ ap (after_at channels p e) at) ∙ there)
    by (Some d) at = elim (same_or_not c d) [
      | inl same ↦ inr (
        at ∙ ap Some (sym same),
        ap (λ cs. slice_get cs c) (channels-at channels p e ∙ ap (after_at channels p e) (at ∙ ap Some (sym same))) ∙ change-here channels c (λ ch. channel_by p ch e) channel there,
      )
      | inr other ↦ inl (ap (λ cs. slice_get cs c) (channels-at channels p e ∙ ap (after_at channels p e) at) ∙ change-other channels d (λ ch. channel_by p ch e) c other ∙ there)
    ]

-- Turns of two processes at one connection commute there.
abbrev pub CommuteAt : List Channel → ℕ → Event → ℕ → Event → Type 0
CommuteAt channels p e q f = (c : ℕ) (channel : Channel) → touches e ≡ Some c → touches f ≡ Some c → slice_get channels c ≡ Some channel → channel_by q (channel_by p channel e) f ≡ channel_by p (channel_by q channel f) e

-- The turns of two processes change the connections alike in either order.
pub channels-commute : (channels : List Channel) (p : ℕ) (e : Event) (q : ℕ) (f : Event) → CommuteAt channels p e q f → channels_after (channels_after channels p e) q f ≡ channels_after (channels_after channels q f) p e
channels-commute channels p e q f commute =
    channels-at (channels_after channels p e) q f ∙ ap (λ cs. after_at cs q f (touches f)) (channels-at channels p e) ∙ by (touches e) (touches f) refl refl
    ∙ sym (channels-at (channels_after channels q f) p e ∙ ap (λ cs. after_at cs p e (touches e)) (channels-at channels q f))
  where
    by : (at on : Option ℕ) → touches e ≡ at → touches f ≡ on → after_at (after_at channels p e at) q f on ≡ after_at (after_at channels q f on) p e at
    by None on at is = refl
    by (Some c) None at is = refl
    by (Some c) (Some d) at is = elim (same_or_not c d) [
      | inl same ↦ (let at_c : (x : Channel) → slice_get channels c ≡ Some x → channel_by q (channel_by p x e) f ≡ channel_by p (channel_by q x f) e = λ x there. commute c x at (is ∙ ap Some (sym same)) there in
          let whole = change-same channels c (λ ch. channel_by p ch e) (λ ch. channel_by q ch f) at_c in
          subst (λ (k : ℕ). change_at (change_at channels c (λ ch. channel_by p ch e)) k (λ ch. channel_by q ch f) ≡ change_at (change_at channels k (λ ch. channel_by q ch f)) c (λ ch. channel_by p ch e)) same whole)
      | inr other ↦ change-commute channels c (λ ch. channel_by p ch e) d (λ ch. channel_by q ch f) other
    ]

-- What grows at two places

-- Two lists that grow, where both tests don't hold at once.
pub grow-commute : {A : Type 0} (t u : Bool) (xs ys zs : List A) → (t ≡ true → u ≡ true → ⊥) → cond u (cond t (xs ++ ys) xs ++ zs) (cond t (xs ++ ys) xs) ≡ cond t (cond u (xs ++ zs) xs ++ ys) (cond u (xs ++ zs) xs)
grow-commute true true xs ys zs ne = absurd (ne refl refl)
grow-commute true false xs ys zs ne = refl
grow-commute false true xs ys zs ne = refl
grow-commute false false xs ys zs ne = refl

-- Two different numbers aren't both equal to a third.
pub not-twice : (r p q : ℕ) → p ≢ q → nat_eq r p ≡ true → nat_eq r q ≡ true → ⊥
not-twice r p q ne t u = ne (grind (arith, nat_tests))

-- What a turn of process p puts, and where.
abbrev puts : ℕ → Event → Option (ℕ × Put)
puts p (Sends port c packet) = Some (c, record { sender = record { process = p; output = port }; entry = entry_of packet })
puts p event = None

abbrev put_at : (ℕ → List Put) → Option (ℕ × Put) → ℕ → List Put
put_at put (Some new) = add_at new.0 new.1 put
put_at put None = put

put-at : (put : ℕ → List Put) (p : ℕ) (e : Event) → put_after put p e ≡ put_at put (puts p e)
put-at put p Starts = refl
put-at put p e = refl

puts-touches : (p : ℕ) (e : Event) (new : ℕ × Put) → puts p e ≡ Some new → (port : ℕ) × (packet : Tree) × (e ≡ Sends port new.0 packet)
puts-touches p (Sends port c packet) new is = (port, packet, ap (λ k. Sends port k packet) (ap (λ (n : ℕ × Put). n.0) (one-of (c, record { sender = record { process = p; output = port }; entry = entry_of packet }) new is)))
puts-touches p e new is = absurd (cc)

-- Two turns don't both send to one connection.
abbrev pub SendApart : Event → Event → Type 0
SendApart e f = (port k c : ℕ) (packet other : Tree) → e ≡ Sends port c packet → f ≡ Sends k c other → ⊥

-- The turns of two processes that don't send to one connection put alike in either order.
pub puts-commute : (put : ℕ → List Put) (p : ℕ) (e : Event) (q : ℕ) (f : Event) → SendApart e f → put_after (put_after put p e) q f ≡ put_after (put_after put q f) p e
puts-commute put p e q f apart =
    put-at (put_after put p e) q f ∙ ap (λ (g : ℕ → List Put). put_at g (puts q f)) (put-at put p e) ∙ by (puts p e) (puts q f) refl refl
    ∙ sym (put-at (put_after put q f) p e ∙ ap (λ (g : ℕ → List Put). put_at g (puts p e)) (put-at put q f))
  where
    ne : (a b : ℕ × Put) → puts p e ≡ Some a → puts q f ≡ Some b → a.0 ≢ b.0
    ne a b at on same =
        let one = puts-touches p e a at in
        let two = puts-touches q f b on in
        apart one.0 two.0 a.0 one.1 two.1 one.2 (two.2 ∙ ap (λ k. Sends two.0 k two.1) (sym same))

    by : (a b : Option (ℕ × Put)) → puts p e ≡ a → puts q f ≡ b → put_at (put_at put a) b ≡ put_at (put_at put b) a
    by None b at on = refl
    by (Some a) None at on = refl
    by (Some a) (Some b) at on = λ i r. grow-commute (nat_eq r a.0) (nat_eq r b.0) (put r) (a.1 ∷ []) (b.1 ∷ []) (not-twice r a.0 b.0 (ne a b at on)) i

-- What came at automatic inputs, and what was dropped

-- What comes at an automatic input by a turn, and the ids that it drops.
abbrev signals_by : Event → List Entry
signals_by (Signals c packet) = entry_of packet ∷ []
signals_by event = []

abbrev drops_by : Event → List ℕ
drops_by (Signals c packet) = ids packet
drops_by event = []

-- A list that grows by nothing.
grown-none : {A : Type 0} (t : Bool) (xs : List A) → xs ≡ cond t (xs ++ []) xs
grown-none true xs = sym (append-nil xs)
grown-none false xs = refl

signals-at : (old : ℕ → List Entry) (p : ℕ) (e : Event) (r : ℕ) → signals_after old p e r ≡ cond (nat_eq r p) (old r ++ signals_by e) (old r)
signals-at old p (Signals c packet) r = refl
signals-at old p e r = grown-none (nat_eq r p) (old r)

drops-at : (old : ℕ → List ℕ) (p : ℕ) (e : Event) (r : ℕ) → drops_after old p e r ≡ cond (nat_eq r p) (old r ++ drops_by e) (old r)
drops-at old p (Signals c packet) r = refl
drops-at old p e r = grown-none (nat_eq r p) (old r)

-- The turns of two processes bring signals alike in either order.
pub signals-commute : (old : ℕ → List Entry) (p : ℕ) (e : Event) (q : ℕ) (f : Event) → p ≢ q → (r : ℕ) → signals_after (signals_after old p e) q f r ≡ signals_after (signals_after old q f) p e r
signals-commute old p e q f apart r =
    signals-at (signals_after old p e) q f r ∙ ap (λ xs. cond (nat_eq r q) (xs ++ signals_by f) xs) (signals-at old p e r)
    ∙ grow-commute (nat_eq r p) (nat_eq r q) (old r) (signals_by e) (signals_by f) (not-twice r p q apart)
    ∙ sym (signals-at (signals_after old q f) p e r ∙ ap (λ xs. cond (nat_eq r p) (xs ++ signals_by e) xs) (signals-at old q f r))

-- A list that grows twice where the test holds.
abbrev twice : Bool → List ℕ → List ℕ → List ℕ → List ℕ
twice t xs ys zs = cond t (cond t (xs ++ ys) xs ++ zs) (cond t (xs ++ ys) xs)

twice-commute : (t u : Bool) (xs a b c d : List ℕ) → (t ≡ true → u ≡ true → ⊥) → twice u (twice t xs a b) c d ≡ twice t (twice u xs c d) a b
twice-commute true true xs a b c d ne = absurd (ne refl refl)
twice-commute true false xs a b c d ne = refl
twice-commute false true xs a b c d ne = refl
twice-commute false false xs a b c d ne = refl

then-at : (old : ℕ → List ℕ) (p : ℕ) (e : Event) (ds : List ℕ) (r : ℕ) → dropped_then old p e ds r ≡ twice (nat_eq r p) (old r) (drops_by e) ds
then-at old p e ds r = ap (λ xs. cond (nat_eq r p) (xs ++ ds) xs) (drops-at old p e r)

-- The turns and works of two processes drop alike in either order.
pub drops-commute : (old : ℕ → List ℕ) (p : ℕ) (e : Event) (ds : List ℕ) (q : ℕ) (f : Event) (es : List ℕ) → p ≢ q → (r : ℕ) → dropped_then (dropped_then old p e ds) q f es r ≡ dropped_then (dropped_then old q f es) p e ds r
drops-commute old p e ds q f es apart r =
    then-at (dropped_then old p e ds) q f es r ∙ ap (λ xs. twice (nat_eq r q) xs (drops_by f) es) (then-at old p e ds r)
    ∙ twice-commute (nat_eq r p) (nat_eq r q) (old r) (drops_by e) ds (drops_by f) es (not-twice r p q apart)
    ∙ sym (then-at (dropped_then old q f es) p e ds r ∙ ap (λ xs. twice (nat_eq r p) xs (drops_by e) ds) (then-at old q f es r))
