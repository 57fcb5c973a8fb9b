-- One more input was looked at.
use Rattle.std.proofs.Common.{◌≡◌, ℕ, Bool, true, false, cond, zero, suc, ◌+◌, ◌<◌, ◌≤◌, List, [], ◌∷◌, ◌++◌, append_assoc, refl, ap, sym, subst, ◌∙◌, arith, Option, Some, None, slice_get, inl, inr, nat_eq}
use Rattle.std.proofs.lemmas.Bool.Decides.{nat_tests}
use Rattle.flow_model.specs.States.{Input, From, Text, Process}
use Rattle.flow_model.specs.Order.{connection_of}
use Rattle.flow_model.proofs.Lists.{same_or_not}
use Rattle.flow_machine.specs.Inlets.{signal_input}
use Rattle.flow_ring.specs.Words.{level_in, senders_in}
use Rattle.flow_floor.specs.declared.board.Look.{Look}
use Rattle.flow_floor.specs.declared.board.View.{View}
use Rattle.flow_floor.specs.declared.floor.Saw.{Saw}
use Rattle.flow_floor.specs.declared.floor.Saw.TheVariants as saw
use Rattle.flow_floor.specs.declared.floor.Signalled.{Signalled}
use Rattle.flow_floor.specs.declared.floor.Signalled.TheVariants as signalled
use Rattle.flow_floor.specs.Looks.{InSeen, IsLook, SawPacket, SawNone, SawOver, SawEnd, SawReleased, AllSaw, Saws, Finds, FindsHeld, FoundOpen, Looked, first_open}
use Rattle.flow_floor.specs.Views.{look_at, seeing}
use Rattle.flow_floor.specs.Workers.{LooksOn}
use Rattle.flow_floor.proofs.Lists.{some_Some}

pub saw-begin : (saw : ℕ → Look → Type 0) (inputs : List Input) (seen : List Look) → AllSaw saw 0 inputs seen
saw-begin saw inputs seen i c below is = absurd (omega (arith, below))

pub saw-skip : (saw : ℕ → Look → Type 0) (m : ℕ) (inputs : List Input) (seen : List Look) → AllSaw saw m inputs seen → connection_of (slice_get inputs m) ≡ None → AllSaw saw (m + 1) inputs seen
saw-skip saw m inputs seen all gone i c below is = elim (same_or_not i m) [
  | inl same ↦ absurd (let e : None ≡ Some c = sym gone ∙ ap connection_of (ap (slice_get inputs) (sym same) ∙ is) in cc)
  | inr other ↦ all i c (omega (arith, below, other)) is
]

pub saw-look : (saw : ℕ → Look → Type 0) (m d : ℕ) (inputs : List Input) (look : Look) (seen : List Look) → AllSaw saw m inputs seen → connection_of (slice_get inputs m) ≡ Some d → saw d look → AllSaw saw (m + 1) inputs (look ∷ seen)
saw-look saw m d inputs look seen all at here i c below is = elim (same_or_not i m) [
  | inl same ↦ (let e : Some d ≡ Some c = sym at ∙ ap connection_of (ap (slice_get inputs) (sym same) ∙ is) in inl (subst (λ n. saw n look) (some_Some d c e) here))
  | inr other ↦ inr (all i c (omega (arith, below, other)) is)
]

-- a connection that is told stands at the input
pub input-told : (inputs : List Input) (i c : ℕ) → connection_of (slice_get inputs i) ≡ Some c → slice_get inputs i ≡ Some (From c)
input-told inputs i c is = by (slice_get inputs i) refl is
  where
    by : (found : Option Input) → slice_get inputs i ≡ found → connection_of found ≡ Some c → slice_get inputs i ≡ Some (From c)
    by (Some (From d)) at is = at ∙ ap (λ n. let r : Option Input = Some (From n) in r) (some_Some d c is)
    by (Some (Text text)) at is = absurd (cc)
    by None at is = absurd (cc)

-- Before any look nothing is found.
pub looked-begin : (n since : ℕ) (inputs : List Input) (seen : List Look) → Looked n since 0 inputs seen None
looked-begin n since inputs seen = record { none_in = saw-begin (SawNone n since) inputs seen; opened = saw-begin (SawOver n since) inputs seen }

-- An input without a connection needs no look.
pub looked-skip : (n since m : ℕ) (inputs : List Input) (seen : List Look) (found : Option ℕ) → Looked n since m inputs seen found → connection_of (slice_get inputs m) ≡ None → Looked n since (m + 1) inputs seen found
looked-skip n since m inputs seen found l gone = record { none_in = saw-skip (SawNone n since) m inputs seen l.none_in gone; opened = by found l.opened }
  where
    by : (found : Option ℕ) → FoundOpen n since m inputs seen found → FoundOpen n since (m + 1) inputs seen found
    by (Some w) o = o
    by None o = saw-skip (SawOver n since) m inputs seen o gone

-- An empty input was looked at.
pub looked-more : (n since m c : ℕ) (inputs : List Input) (look : Look) (seen : List Look) (found : Option ℕ) → Looked n since m inputs seen found → connection_of (slice_get inputs m) ≡ Some c → look.word ≡ n + c → since < look.at → level_in look.read ≡ 0
    → Looked n since (m + 1) inputs (look ∷ seen) (first_open found look.read)
looked-more n since m c inputs look seen found l at word late none_in = record { none_in = saw-look (SawNone n since) m c inputs look seen l.none_in at (word, none_in, late); opened = by found l.opened }
  where
    -- it has no open sender, or is the lowest that has one
    here : AllSaw (SawOver n since) m inputs seen → (b : Bool) → nat_eq (senders_in look.read) 0 ≡ b → FoundOpen n since (m + 1) inputs (look ∷ seen) (cond b None (Some look.read))
    here o true is = (let z : senders_in look.read ≡ 0 = grind (arith, nat_tests) in saw-look (SawOver n since) m c inputs look seen o at (word, none_in, z, late))
    here o false is = record {
      input = m;
      connection = c;
      at = input-told inputs m c at;
      look = inl (word, refl, late);
      none_in = none_in;
      opened = (let z : 0 < senders_in look.read = grind (arith, nat_tests) in z);
      below = λ i d low there. inr (o i d low there);
    }

    by : (found : Option ℕ) → FoundOpen n since m inputs seen found → FoundOpen n since (m + 1) inputs (look ∷ seen) (first_open found look.read)
    by (Some w) o = record { input = o.input; connection = o.connection; at = o.at; look = inr o.look; none_in = o.none_in; opened = o.opened; below = λ i d low there. inr (o.below i d low there) }
    by None o = here o (nat_eq (senders_in look.read) 0) refl

-- What isn't nothing is at least one.
pub not-none : (n : ℕ) → (n ≡ 0 → ⊥) → 0 < n
not-none zero other = absurd (other refl)
not-none (suc n) other = omega arith

-- A look that was taken is among those that were taken since.
pub in-more : (is : Look → Type 0) (more seen : List Look) → InSeen is seen → InSeen is (more ++ seen)
in-more is [] seen there = there
in-more is (look ∷ more) seen there = inr (in-more is more seen there)

-- What one look is, another way.
pub in-so : (is so : Look → Type 0) (seen : List Look) → ((look : Look) → is look → so look) → InSeen is seen → InSeen so seen
in-so is so [] to there = absurd there
in-so is so (look ∷ seen) to (inl here) = inl (to look here)
in-so is so (look ∷ seen) to (inr there) = inr (in-so is so seen to there)

-- What was seen over stays in sight.
pub end-on : (n since : ℕ) (inputs : List Input) (more seen : List Look) → SawEnd n since inputs seen → SawEnd n since inputs (more ++ seen)
end-on n since inputs more seen saw i c below is = in-more (SawOver n since c) more seen (saw i c below is)

-- So does what tells that a process is released.
pub released-on : {K : Type 0} (n since : ℕ) (x : Process K) (more seen : List Look) → SawReleased n since x seen → SawReleased n since x (more ++ seen)
released-on n since x more seen (inl signalled) = inl signalled
released-on n since x more seen (inr saw) = inr (end-on n since (signal_input x.signal) more seen saw)

-- What was seen after more steps was seen after fewer.
pub saws-since : (n since late : ℕ) (inputs : List Input) (seen : List Look) (s : Saw) → since ≤ late → Saws n late inputs seen s → Saws n since inputs seen s
saws-since n since late inputs seen s le is = by s is
  where
    packet : (c : ℕ) (look : Look) → SawPacket n late c look → SawPacket n since c look
    packet c look t = (t.0, t.1, let l = t.2 in omega (arith, l, le))

    none : (c : ℕ) (look : Look) → SawNone n late c look → SawNone n since c look
    none c look t = (t.0, t.1, let l = t.2 in omega (arith, l, le))

    over : (c : ℕ) (look : Look) → SawOver n late c look → SawOver n since c look
    over c look t = (t.0, t.1, t.2, let l = t.3 in omega (arith, l, le))

    word : (c w : ℕ) (look : Look) → IsLook n late c w look → IsLook n since c w look
    word c w look t = (t.0, t.1, let l = t.2 in omega (arith, l, le))

    by : (s : Saw) → Saws n late inputs seen s → Saws n since inputs seen s
    by saw.Packet (i, c, at, there) = (i, c, at, in-so (SawPacket n late c) (SawPacket n since c) seen (packet c) there)
    by (saw.Sender w) (empty, first) = (
      λ i c below at. in-so (SawNone n late c) (SawNone n since c) seen (none c) (empty i c below at),
      record {
        input = first.input;
        connection = first.connection;
        at = first.at;
        look = in-so (IsLook n late first.connection w) (IsLook n since first.connection w) seen (word first.connection w) first.look;
        none_in = first.none_in;
        opened = first.opened;
        below = λ i c below at. in-so (SawOver n late c) (SawOver n since c) seen (over c) (first.below i c below at);
      },
    )
    by saw.Over end = λ i c below at. in-so (SawOver n late c) (SawOver n since c) seen (over c) (end i c below at)

-- One look at the automatic input, which has connection c, read r there: what it came to.
module _ {K : Type 0} (n c r : ℕ) (signal : Option ℕ) (v w : View K) (at : signal ≡ Some c) (is : w ≡ seeing v (n + c) r) where
  there : (s : Saw) → Saws n v.steps (From c ∷ []) (look_at v (n + c) r ∷ v.seen) s → Saws n v.steps (signal_input signal) w.seen s
  there s t = subst (λ (z : List Look). Saws n v.steps (signal_input signal) z s) (sym (ap (λ (x : View K). x.seen) is)) (subst (λ (z : Option ℕ). Saws n v.steps (signal_input z) (look_at v (n + c) r ∷ v.seen) s) (sym at) t)

  looked : level_in r ≡ 0 → Looked n v.steps 1 (From c ∷ []) (look_at v (n + c) r ∷ v.seen) (first_open None r)
  looked none_in = looked-more n v.steps 0 c (From c ∷ []) (look_at v (n + c) r) v.seen None (looked-begin n v.steps (From c ∷ []) v.seen) refl refl (omega arith) none_in

  pub signal-sender : (o : ℕ) → level_in r ≡ 0 → first_open None r ≡ Some o → Saws n v.steps (signal_input signal) w.seen (saw.Sender o)
  signal-sender o none_in found = let l = looked none_in in there (saw.Sender o) (l.none_in, subst (FoundOpen n v.steps 1 (From c ∷ []) (look_at v (n + c) r ∷ v.seen)) found l.opened)

  pub signal-none : level_in r ≡ 0 → first_open None r ≡ None → Saws n v.steps (signal_input signal) w.seen saw.Over
  signal-none none_in found = let l = looked none_in in there saw.Over (subst (FoundOpen n v.steps 1 (From c ∷ []) (look_at v (n + c) r ∷ v.seen)) found l.opened)

-- Without an automatic input there is nothing to look at.
pub signal-absent : (n since : ℕ) (signal : Option ℕ) (seen : List Look) → signal ≡ None → Saws n since (signal_input signal) seen saw.Over
signal-absent n since signal seen gone = subst (λ (z : Option ℕ). Saws n since (signal_input z) seen saw.Over) (sym gone) (saw-begin (SawOver n since) [] seen)

-- Looks and nothing else.
pub looks-none : {K : Type 0} (v : View K) → LooksOn v v
looks-none v = record { made = refl; steps = (let l : v.steps ≤ v.steps = omega arith in l); more = []; seen = refl }

-- Steps that looked at nothing.
pub looks-on : {K : Type 0} (v w u : View K) → w ≡ u → u.made ≡ v.made → v.steps ≤ u.steps → u.seen ≡ v.seen → LooksOn v w
looks-on v w u is made steps seen = record { made = ap (λ (x : View _). x.made) is ∙ made; steps = (let e = ap (λ (x : View _). x.steps) is in omega (arith, e, steps)); more = []; seen = ap (λ (x : View _). x.seen) is ∙ seen }

pub looks-then : {K : Type 0} (u v w : View K) → LooksOn u v → LooksOn v w → LooksOn u w
looks-then u v w first then = record {
  made = then.made ∙ first.made;
  steps = omega (arith, first.steps, then.steps);
  more = then.more ++ first.more;
  seen = then.seen ∙ ap (λ (xs : List Look). then.more ++ xs) first.seen ∙ sym (append_assoc then.more first.more u.seen);
}

pub looks-one : {K : Type 0} (v w : View K) (i r : ℕ) → w ≡ seeing v i r → LooksOn v w
looks-one v w i r is = record {
  made = ap (λ (x : View _). x.made) is;
  steps = (let e = ap (λ (x : View _). x.steps) is in omega (arith, e));
  more = look_at v i r ∷ [];
  seen = ap (λ (x : View _). x.seen) is;
}

-- What was seen over, or tells a release, stays in sight where there were looks and nothing else.
pub end-later : {K : Type 0} (n since : ℕ) (inputs : List Input) (v w : View K) → LooksOn v w → SawEnd n since inputs v.seen → SawEnd n since inputs w.seen
end-later n since inputs v w on saw = subst (SawEnd n since inputs) (sym on.seen) (end-on n since inputs on.more v.seen saw)

pub released-later : {K L : Type 0} (n since : ℕ) (x : Process L) (v w : View K) → LooksOn v w → SawReleased n since x v.seen → SawReleased n since x w.seen
released-later n since x v w on saw = subst (SawReleased n since x) (sym on.seen) (released-on n since x on.more v.seen saw)

-- What was found at the automatic input of a process to which no packet came there before.
pub finds-held : {K : Type 0} (n since : ℕ) (x : Process K) (seen : List Look) (s : Signalled) → x.signalled ≡ false → Finds n since x.signal seen s → FindsHeld n since x seen s
finds-held n since x seen (signalled.Packet c packet) un found = (un, found)
finds-held n since x seen (signalled.Sender w) un found = (un, found)
finds-held n since x seen signalled.Over un found = inr found
