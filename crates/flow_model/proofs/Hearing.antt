-- What was told of ends and starts, as one more happening comes.
use Rattle.std.proofs.Common.{◌≡◌, ℕ, arith, ◌≢◌, ◌≤◌, ◌+◌, ◌<◌, ◌==◌, ◌&&◌, not, Bool, true, List, [], ◌∷◌, ◌++◌, refl, sym, ◌∙◌, subst, append-nil, append_assoc, ◌⊎◌, inl, inr}
use Rattle.flow_component.specs.Happenings.{Happening, Started, Received, Ended, Sent, Learned}
use Rattle.flow_component.specs.Runs.{content_got, got, EndIsLast, BringsFirst, StartsBring, GivesText, IsEnd, HeardEnd, IsStart, Wakes, starts}
use Rattle.flow_component.proofs.Streams.{got-more}

-- It is a packet at this input.
abbrev pub IsGot : ℕ → Happening → Type 0
IsGot port (Received input packet) = input ≡ port
IsGot port happening = ⊥

abbrev pub HasGot : ℕ → List Happening → Type 0
HasGot port [] = ⊥
HasGot port (h ∷ hs) = IsGot port h ⊎ HasGot port hs

-- An end that was heard by now was heard before, or is heard now.
pub heard-more : (port : ℕ) (es : List Happening) (e : Happening) → HeardEnd port (es ++ e ∷ []) → HeardEnd port es ⊎ IsEnd port e
heard-more port [] e (inl h) = inr h
heard-more port [] e (inr h) = absurd h
heard-more port (f ∷ es) e (inl h) = inl (inl h)
heard-more port (f ∷ es) e (inr h) = elim (heard-more port es e h) [ inl k ↦ inl (inr k) | inr k ↦ inr k ]

pub got-later : (port : ℕ) (es : List Happening) (e : Happening) → HasGot port es → HasGot port (es ++ e ∷ [])
got-later port [] e h = absurd h
got-later port (f ∷ es) e (inl h) = inl h
got-later port (f ∷ es) e (inr h) = inr (got-later port es e h)

pub got-now : (port : ℕ) (es : List Happening) (e : Happening) → IsGot port e → HasGot port (es ++ e ∷ [])
got-now port [] e h = inl h
got-now port (f ∷ es) e h = inr (got-now port es e h)

nothing-more : (port : ℕ) (es : List Happening) (e : Happening) → got port es ≡ [] → content_got port e ≡ [] → got port (es ++ e ∷ []) ≡ []
nothing-more port es e h k = got-more port es e ∙ (λ i. h i ++ k i)

-- an end that is the last stays the last, where nothing is got at an input whose end was heard
pub last-more : (port : ℕ) (es : List Happening) (e : Happening) → EndIsLast port es → (HeardEnd port es → content_got port e ≡ []) → EndIsLast port (es ++ e ∷ [])
last-more port [] (Ended p) l h = ((λ same. refl), tt)
last-more port (Started ∷ es) e l h = last-more port es e l (λ k. h (inr k))
last-more port (Received p t ∷ es) e l h = last-more port es e l (λ k. h (inr k))
last-more port (Ended p ∷ es) e l h = ((λ same. nothing-more port es e (l.0 same) (h (inl same))), last-more port es e l.1 (λ k. h (inr k)))
last-more port (Sent p t ∷ es) e l h = last-more port es e l (λ k. h (inr k))
last-more port (Learned p n ∷ es) e l h = last-more port es e l (λ k. h (inr k))
last-more port [] e l h = tt

-- what was got first stays so
brings-more : (port : ℕ) (es : List Happening) (e : Happening) → BringsFirst port es → HasGot port es ⊎ (IsEnd port e → ⊥) → BringsFirst port (es ++ e ∷ [])
brings-more port [] Started b g = tt
brings-more port [] (Received p t) b g = inr tt
brings-more port [] (Ended p) b (inl g) = absurd g
brings-more port [] (Ended p) b (inr g) = (g, tt)
brings-more port [] (Sent p t) b g = tt
brings-more port [] (Learned p n) b g = tt
brings-more port (Started ∷ es) e b (inl (inr g)) = brings-more port es e b (inl g)
brings-more port (Started ∷ es) e b (inr g) = brings-more port es e b (inr g)
brings-more port (Received p t ∷ es) e (inl same) g = inl same
brings-more port (Received p t ∷ es) e (inr b) (inl (inl same)) = inl same
brings-more port (Received p t ∷ es) e (inr b) (inl (inr g)) = inr (brings-more port es e b (inl g))
brings-more port (Received p t ∷ es) e (inr b) (inr g) = inr (brings-more port es e b (inr g))
brings-more port (Ended p ∷ es) e b (inl (inr g)) = (b.0, brings-more port es e b.1 (inl g))
brings-more port (Ended p ∷ es) e b (inr g) = (b.0, brings-more port es e b.1 (inr g))
brings-more port (Sent p t ∷ es) e b (inl (inr g)) = brings-more port es e b (inl g)
brings-more port (Sent p t ∷ es) e b (inr g) = brings-more port es e b (inr g)
brings-more port (Learned p n ∷ es) e b (inl (inr g)) = brings-more port es e b (inl g)
brings-more port (Learned p n ∷ es) e b (inr g) = brings-more port es e b (inr g)
brings-more port happening e b (inl (inl g)) = absurd g

-- After each start one of these inputs brings a packet before its end: it was got already, or it waits.
pub record Brings (waits among : ℕ → Type 0) (later : List Happening) : Type 0 where
  pub port : ℕ
  pub within : among port
  pub first : BringsFirst port later
  pub got_or_waits : HasGot port later ⊎ waits port

-- Behind each start among the happenings, one of the ports that wait for it brings something.
abbrev pub StartsKeep : (ℕ → Type 0) → (ℕ → Type 0) → List Happening → Type 0
StartsKeep waits among [] = Unit {0}
StartsKeep waits among (Started ∷ later) = Brings waits among later × StartsKeep waits among later
StartsKeep waits among (Received input packet ∷ later) = StartsKeep waits among later
StartsKeep waits among (Ended input ∷ later) = StartsKeep waits among later
StartsKeep waits among (Sent output packet ∷ later) = StartsKeep waits among later
StartsKeep waits among (Learned output level ∷ later) = StartsKeep waits among later

-- Where each start keeps what waits, it brings what is among the ports.
pub starts-kept : (waits among : ℕ → Type 0) (es : List Happening) → StartsKeep waits among es → StartsBring among es
starts-kept waits among [] k = tt
starts-kept waits among (Started ∷ es) k = ((k.0.port, k.0.within, k.0.first), starts-kept waits among es k.1)
starts-kept waits among (Received p t ∷ es) k = starts-kept waits among es k
starts-kept waits among (Ended p ∷ es) k = starts-kept waits among es k
starts-kept waits among (Sent p t ∷ es) k = starts-kept waits among es k
starts-kept waits among (Learned p m ∷ es) k = starts-kept waits among es k

-- nothing is heard, and what waits still waits
pub starts-same : (old new among : ℕ → Type 0) → ((port : ℕ) → old port → new port) → (es : List Happening) → StartsKeep old among es → StartsKeep new among es
starts-same old new among up [] k = tt
starts-same old new among up (Started ∷ es) k = (
  record { port = k.0.port; within = k.0.within; first = k.0.first; got_or_waits = elim k.0.got_or_waits [ inl g ↦ inl g | inr w ↦ inr (up k.0.port w) ] },
  starts-same old new among up es k.1,
)
starts-same old new among up (Received p t ∷ es) k = starts-same old new among up es k
starts-same old new among up (Ended p ∷ es) k = starts-same old new among up es k
starts-same old new among up (Sent p t ∷ es) k = starts-same old new among up es k
starts-same old new among up (Learned p m ∷ es) k = starts-same old new among up es k

-- one more is heard: not the end of an input at which something waits; what waited was got or still waits; after a start something waits
module _ (old new among : ℕ → Type 0) (e : Happening) (no_end : (port : ℕ) → old port → IsEnd port e → ⊥) (up : (port : ℕ) → old port → IsGot port e ⊎ new port)
    (begins : IsStart e → (port : ℕ) × among port × new port) where
  one-more : (later : List Happening) → Brings old among later → Brings new among (later ++ e ∷ [])
  one-more later b = by b.got_or_waits
    where
      by : HasGot b.port later ⊎ old b.port → Brings new among (later ++ e ∷ [])
      by (inl g) = record { port = b.port; within = b.within; first = brings-more b.port later e b.first (inl g); got_or_waits = inl (got-later b.port later e g) }
      by (inr w) = record {
        port = b.port;
        within = b.within;
        first = brings-more b.port later e b.first (inr (no_end b.port w));
        got_or_waits = elim (up b.port w) [ inl g ↦ inl (got-now b.port later e g) | inr v ↦ inr v ];
      }

  last-one : (f : Happening) → (IsStart f → (port : ℕ) × among port × new port) → StartsKeep new among (f ∷ [])
  last-one Started b = (record { port = (b tt).0; within = (b tt).1; first = tt; got_or_waits = inr ((b tt).2) }, tt)
  last-one f b = tt

  pub starts-more : (es : List Happening) → StartsKeep old among es → StartsKeep new among (es ++ e ∷ [])
  starts-more [] k = last-one e begins
  starts-more (Started ∷ es) k = (one-more es k.0, starts-more es k.1)
  starts-more (Received p t ∷ es) k = starts-more es k
  starts-more (Ended p ∷ es) k = starts-more es k
  starts-more (Sent p t ∷ es) k = starts-more es k
  starts-more (Learned p m ∷ es) k = starts-more es k

-- one more is told: a start finds an input whose end wasn't heard
pub wakes-more : (n : ℕ) (before es : List Happening) (e : Happening) → Wakes n before es → (IsStart e → (before ++ es ≡ []) ⊎ ((port : ℕ) × (port < n) × (HeardEnd port (before ++ es) → ⊥))) → Wakes n before (es ++ e ∷ [])
wakes-more n before [] e w starts = ((λ s. rw append-nil at (starts s)), tt)
wakes-more n before (f ∷ es) e w starts =
    (w.0, wakes-more n (before ++ f ∷ []) es e w.1 (λ s. subst (λ (hs : List Happening). (hs ≡ []) ⊎ ((port : ℕ) × (port < n) × (HeardEnd port hs → ⊥))) (sym (append_assoc before (f ∷ []) es)) (starts s)))

-- Whether a text at this input is fresh, once these were told.
abbrev pub fresh_told : ℕ → Bool → List Happening → Bool
fresh_told port fresh [] = fresh
fresh_told port fresh (Started ∷ later) = fresh_told port true later
fresh_told port fresh (Received input packet ∷ later) = fresh_told port (fresh && not (input == port)) later
fresh_told port fresh (Ended input ∷ later) = fresh_told port fresh later
fresh_told port fresh (Sent output packet ∷ later) = fresh_told port fresh later
fresh_told port fresh (Learned output level ∷ later) = fresh_told port fresh later

-- One more happening changes whether an initial text is fresh as it alone would.
pub fresh-more : (port : ℕ) (fresh : Bool) (es : List Happening) (e : Happening) → fresh_told port fresh (es ++ e ∷ []) ≡ fresh_told port (fresh_told port fresh es) (e ∷ [])
fresh-more port fresh [] e = refl
fresh-more port fresh (Started ∷ es) e = fresh-more port true es e
fresh-more port fresh (Received i t ∷ es) e = fresh-more port (fresh && not (i == port)) es e
fresh-more port fresh (Ended i ∷ es) e = fresh-more port fresh es e
fresh-more port fresh (Sent o t ∷ es) e = fresh-more port fresh es e
fresh-more port fresh (Learned o n ∷ es) e = fresh-more port fresh es e

-- one more is told at an input with a text
pub gives-more : (port : ℕ) (text : List ℕ) (fresh : Bool) (es : List Happening) (e : Happening) → GivesText port text fresh es → GivesText port text (fresh_told port fresh es) (e ∷ []) → GivesText port text fresh (es ++ e ∷ [])
gives-more port text fresh [] e g h = h
gives-more port text fresh (Started ∷ es) e g h = gives-more port text true es e g h
gives-more port text fresh (Received i t ∷ es) e g h = (g.0, gives-more port text (fresh && not (i == port)) es e g.1 h)
gives-more port text fresh (Ended i ∷ es) e g h = (g.0, gives-more port text fresh es e g.1 h)
gives-more port text fresh (Sent o t ∷ es) e g h = gives-more port text fresh es e g h
gives-more port text fresh (Learned o n ∷ es) e g h = gives-more port text fresh es e g h

-- a start counts one more
pub starts-count : (es : List Happening) (e : Happening) → starts (es ++ e ∷ []) ≡ starts es + starts (e ∷ [])
starts-count [] e = omega arith
starts-count (Started ∷ es) e = omega (arith, starts-count es e)
starts-count (Received p t ∷ es) e = starts-count es e
starts-count (Ended p ∷ es) e = starts-count es e
starts-count (Sent p t ∷ es) e = starts-count es e
starts-count (Learned p n ∷ es) e = starts-count es e

-- A process that was told something first was told to start.
pub never-told : (hs : List Happening) → starts hs ≡ 0 → (hs ≢ [] → 1 ≤ starts hs) → hs ≡ []
never-told [] none some = refl
never-told (h ∷ hs) none some = absurd (let l = some (λ e. cc) in omega arith)
