-- One connection more, one sender more, one text more: what that changes of the lists, and that bindings still agree with them.
use Rattle.std.proofs.Common.{◌≡◌, ◌≢◌, ℕ, List, [], ◌∷◌, ◌++◌, Option, Some, None, refl, ap, sym, ◌∙◌, subst, inl, inr, ◌⊎◌, slice_get, length}
use Rattle.std.specs.Option.{option_map, option_and_then}
use Rattle.flow_net.specs.declared.draft.End.{End}
use Rattle.flow_net.specs.declared.draft.DraftProcess.{DraftProcess}
use Rattle.flow_net.specs.declared.draft.Link.{Link}
use Rattle.flow_net.specs.Drafts.{updated}
use Rattle.flow_net.specs.Calls.{with_sender, with_text}
use Rattle.flow_net.specs.Sound.{into_of, sender_at, text_at}
use Rattle.flow_net.proofs.Places.{same_or_not, slice_get-updated_same, slice_get-updated_other}
use Rattle.flow_net.proofs.Wiring.{slice_get-append_keeps, slice_get-push_end, slice_get-push_cases}

-- A mapped option has a value only where the option has.
pub map_some : {A B : Type 0} (f : A → B) (o : Option A) (y : B) → option_map f o ≡ Some y → (x : A) × (o ≡ Some x) × (f x ≡ y)
map_some f None y is = absurd (cc)
map_some f (Some x) y is = (x, refl, cc)

-- Two searches find something only where the first does and then the second.
pub then_some : {A B : Type 0} (f : A → Option B) (o : Option A) (y : B) → option_and_then f o ≡ Some y → (x : A) × (o ≡ Some x) × (f x ≡ Some y)
then_some f None y is = absurd (cc)
then_some f (Some x) y is = (x, refl, is)

-- There is one connection more, without senders.
pub record OpensOne (links after : List Link) (n : ℕ) (into : End) : Type 0 where
  pub opened : into_of after n ≡ Some into
  pub keeps : (c : ℕ) (end : End) → into_of links c ≡ Some end → into_of after c ≡ Some end
  pub cases : (c : ℕ) (end : End) → into_of after c ≡ Some end → (into_of links c ≡ Some end) ⊎ ((c ≡ n) × (into ≡ end))
  pub sends : (c k : ℕ) (end : End) → sender_at links c k ≡ Some end → sender_at after c k ≡ Some end
  pub sent : (c k : ℕ) (end : End) → sender_at after c k ≡ Some end → sender_at links c k ≡ Some end

-- A connection has one sender more.
pub record SendsOne (links after : List Link) (n k : ℕ) (out : End) : Type 0 where
  pub same : (c : ℕ) → into_of after c ≡ into_of links c
  pub added : sender_at after n k ≡ Some out
  pub keeps : (c j : ℕ) (end : End) → sender_at links c j ≡ Some end → sender_at after c j ≡ Some end
  pub cases : (c j : ℕ) (end : End) → sender_at after c j ≡ Some end → (sender_at links c j ≡ Some end) ⊎ ((c ≡ n) × (j ≡ k) × (out ≡ end))

-- A process has one text more.
pub record GivesOne (processes after : List DraftProcess) (p k : ℕ) (input : End) (text : List ℕ) : Type 0 where
  pub added : text_at after p k ≡ Some (input, text)
  pub keeps : (q j : ℕ) (x : End × List ℕ) → text_at processes q j ≡ Some x → text_at after q j ≡ Some x
  pub cases : (q j : ℕ) (x : End × List ℕ) → text_at after q j ≡ Some x → (text_at processes q j ≡ Some x) ⊎ ((q ≡ p) × (j ≡ k) × ((input, text) ≡ x))

-- A connection without senders that is put at the end is the one that is opened.
pub OpensOne-push : (links : List Link) (link : Link) → link.senders ≡ [] → OpensOne links (links ++ link ∷ []) (length links) link.into
OpensOne-push links link none = record {
  opened = ap (option_map (λ (l : Link). l.into)) (slice_get-push_end links link);
  keeps = keeps;
  cases = cases;
  sends = sends;
  sent = sent;
}
  where
    keeps : (c : ℕ) (end : End) → into_of links c ≡ Some end → into_of (links ++ link ∷ []) c ≡ Some end
    keeps c end is =
        let found = map_some (λ (l : Link). l.into) (slice_get links c) end is in
        ap (option_map (λ (l : Link). l.into)) (slice_get-append_keeps links (link ∷ []) c found.0 found.1) ∙ ap Some found.2

    cases : (c : ℕ) (end : End) → into_of (links ++ link ∷ []) c ≡ Some end → (into_of links c ≡ Some end) ⊎ ((c ≡ length links) × (link.into ≡ end))
    cases c end is = by (slice_get-push_cases links link found.0 c found.1)
      where
        found : (x : Link) × (slice_get (links ++ link ∷ []) c ≡ Some x) × (x.into ≡ end)
        found = map_some (λ (l : Link). l.into) (slice_get (links ++ link ∷ []) c) end is

        by : (slice_get links c ≡ Some found.0) ⊎ ((c ≡ length links) × (link ≡ found.0)) → (into_of links c ≡ Some end) ⊎ ((c ≡ length links) × (link.into ≡ end))
        by (inl old) = inl (ap (option_map (λ (l : Link). l.into)) old ∙ ap Some found.2)
        by (inr new) = inr (new.0, ap (λ (l : Link). l.into) new.1 ∙ found.2)

    sends : (c k : ℕ) (end : End) → sender_at links c k ≡ Some end → sender_at (links ++ link ∷ []) c k ≡ Some end
    sends c k end is =
        let found = then_some (λ (l : Link). slice_get l.senders k) (slice_get links c) end is in
        ap (option_and_then (λ (l : Link). slice_get l.senders k)) (slice_get-append_keeps links (link ∷ []) c found.0 found.1) ∙ found.2

    sent : (c k : ℕ) (end : End) → sender_at (links ++ link ∷ []) c k ≡ Some end → sender_at links c k ≡ Some end
    sent c k end is = by (slice_get-push_cases links link found.0 c found.1)
      where
        found : (x : Link) × (slice_get (links ++ link ∷ []) c ≡ Some x) × (slice_get x.senders k ≡ Some end)
        found = then_some (λ (l : Link). slice_get l.senders k) (slice_get (links ++ link ∷ []) c) end is

        by : (slice_get links c ≡ Some found.0) ⊎ ((c ≡ length links) × (link ≡ found.0)) → sender_at links c k ≡ Some end
        by (inl old) = ap (option_and_then (λ (l : Link). slice_get l.senders k)) old ∙ found.2
        by (inr new) =
            let empty : found.0.senders ≡ [] = sym (ap (λ (l : Link). l.senders) new.1) ∙ none in
            let there : slice_get [] k ≡ Some end = subst (λ (ends : List End). slice_get ends k ≡ Some end) empty found.2 in
            absurd (cc)

-- the list at a place of a list of lists, after one more was put at its end there
module _ {X Y : Type 0} (part : X → List Y) (grown : X → X) (y : Y) (grows : (x : X) → part (grown x) ≡ part x ++ y ∷ []) where
  nested : List X → ℕ → ℕ → Option Y
  nested xs c j = option_and_then (λ x. slice_get (part x) j) (slice_get xs c)

  pub grown_added : (xs : List X) (n : ℕ) (x : X) → slice_get xs n ≡ Some x → option_and_then (λ z. slice_get (part z) (length (part x))) (slice_get (updated grown xs n) n) ≡ Some y
  grown_added xs n x is =
      ap (option_and_then (λ z. slice_get (part z) (length (part x)))) (slice_get-updated_same grown xs n ∙ ap (option_map grown) is)
      ∙ ap (λ ys. slice_get ys (length (part x))) (grows x)
      ∙ slice_get-push_end (part x) y

  pub grown_keeps : (xs : List X) (n c j : ℕ) (z : Y) → option_and_then (λ x. slice_get (part x) j) (slice_get xs c) ≡ Some z → option_and_then (λ x. slice_get (part x) j) (slice_get (updated grown xs n) c) ≡ Some z
  grown_keeps xs n c j z is = by (same_or_not c n)
    where
      found : (x : X) × (slice_get xs c ≡ Some x) × (slice_get (part x) j ≡ Some z)
      found = then_some (λ x. slice_get (part x) j) (slice_get xs c) z is

      by : (c ≡ n) ⊎ (c ≢ n) → option_and_then (λ x. slice_get (part x) j) (slice_get (updated grown xs n) c) ≡ Some z
      by (inl e) =
          ap (λ i. option_and_then (λ x. slice_get (part x) j) (slice_get (updated grown xs i) c)) (sym e)
          ∙ ap (option_and_then (λ x. slice_get (part x) j)) (slice_get-updated_same grown xs c ∙ ap (option_map grown) found.1)
          ∙ ap (λ ys. slice_get ys j) (grows found.0)
          ∙ slice_get-append_keeps (part found.0) (y ∷ []) j z found.2
      by (inr ne) = ap (option_and_then (λ x. slice_get (part x) j)) (slice_get-updated_other grown xs n c ne) ∙ is

  pub grown_cases : (xs : List X) (n c j : ℕ) (x : X) (z : Y) → slice_get xs n ≡ Some x → option_and_then (λ x. slice_get (part x) j) (slice_get (updated grown xs n) c) ≡ Some z → (option_and_then (λ x. slice_get (part x) j) (slice_get xs c) ≡ Some z) ⊎ ((c ≡ n) × (j ≡ length (part x)) × (y ≡ z))
  grown_cases xs n c j x z here is = by (same_or_not c n)
    where
      at : (c ≡ n) → slice_get (part x ++ y ∷ []) j ≡ Some z
      at e =
          ap (λ ys. slice_get ys j) (sym (grows x))
          ∙ ap (option_and_then (λ x. slice_get (part x) j)) (sym (ap (option_map grown) here) ∙ sym (slice_get-updated_same grown xs n))
          ∙ ap (λ i. option_and_then (λ x. slice_get (part x) j) (slice_get (updated grown xs n) i)) (sym e)
          ∙ is

      last : (c ≡ n) → (slice_get (part x) j ≡ Some z) ⊎ ((j ≡ length (part x)) × (y ≡ z)) → (option_and_then (λ x. slice_get (part x) j) (slice_get xs c) ≡ Some z) ⊎ ((c ≡ n) × (j ≡ length (part x)) × (y ≡ z))
      last e (inl old) = inl (ap (λ i. option_and_then (λ x. slice_get (part x) j) (slice_get xs i)) e ∙ ap (option_and_then (λ x. slice_get (part x) j)) here ∙ old)
      last e (inr new) = inr (e, new.0, new.1)

      by : (c ≡ n) ⊎ (c ≢ n) → (option_and_then (λ x. slice_get (part x) j) (slice_get xs c) ≡ Some z) ⊎ ((c ≡ n) × (j ≡ length (part x)) × (y ≡ z))
      by (inl e) = last e (slice_get-push_cases (part x) y z j (at e))
      by (inr ne) = inl (ap (option_and_then (λ x. slice_get (part x) j)) (sym (slice_get-updated_other grown xs n c ne)) ∙ is)

-- A connection with one more sender is the one that the sender is added to.
pub SendsOne-updated : (links : List Link) (n : ℕ) (link : Link) (out : End) (capacity : Option ℕ) → slice_get links n ≡ Some link → SendsOne links (updated (with_sender out capacity) links n) n (length link.senders) out
SendsOne-updated links n link out capacity here = record {
  same = same;
  added = grown_added (λ (l : Link). l.senders) (with_sender out capacity) out (λ l. refl) links n link here;
  keeps = λ c j end is. grown_keeps (λ (l : Link). l.senders) (with_sender out capacity) out (λ l. refl) links n c j end is;
  cases = λ c j end is. grown_cases (λ (l : Link). l.senders) (with_sender out capacity) out (λ l. refl) links n c j link end here is;
}
  where
    into_same : (o : Option Link) → option_map (λ (l : Link). l.into) (option_map (with_sender out capacity) o) ≡ option_map (λ (l : Link). l.into) o
    into_same None = refl
    into_same (Some l) = refl

    same : (c : ℕ) → into_of (updated (with_sender out capacity) links n) c ≡ into_of links c
    same c = by (same_or_not c n)
      where
        by : (c ≡ n) ⊎ (c ≢ n) → into_of (updated (with_sender out capacity) links n) c ≡ into_of links c
        by (inl e) =
            ap (λ i. into_of (updated (with_sender out capacity) links i) c) (sym e)
            ∙ ap (option_map (λ (l : Link). l.into)) (slice_get-updated_same (with_sender out capacity) links c)
            ∙ into_same (slice_get links c)
        by (inr ne) = ap (option_map (λ (l : Link). l.into)) (slice_get-updated_other (with_sender out capacity) links n c ne)

-- A process with one more text is the one that the text is given to.
pub GivesOne-updated : (processes : List DraftProcess) (p : ℕ) (begun : DraftProcess) (input : End) (text : List ℕ) → slice_get processes p ≡ Some begun → GivesOne processes (updated (with_text input text) processes p) p (length begun.texts) input text
GivesOne-updated processes p begun input text here = record {
  added = grown_added (λ (b : DraftProcess). b.texts) (with_text input text) (input, text) (λ b. refl) processes p begun here;
  keeps = λ q j x is. grown_keeps (λ (b : DraftProcess). b.texts) (with_text input text) (input, text) (λ b. refl) processes p q j x is;
  cases = λ q j x is. grown_cases (λ (b : DraftProcess). b.texts) (with_text input text) (input, text) (λ b. refl) processes p q j begun x here is;
}
