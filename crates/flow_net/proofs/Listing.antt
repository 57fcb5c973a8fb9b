-- Bindings still agree with the lists after each step.
use Rattle.flow_limits.specs.declared.TheConstants.{TEXT_LIMIT}
use Rattle.std.proofs.Common.{◌≡◌, ◌≢◌, ℕ, ◌≤◌, List, Some, true, false, ap, sym, ◌∙◌, subst, inl, inr, ◌⊎◌, slice_get, length}
use Rattle.std.specs.Option.{option_map}
use Rattle.flow_net.specs.declared.draft.End.{End}
use Rattle.flow_net.specs.declared.draft.DraftPort.{DraftPort}
use Rattle.flow_net.specs.declared.draft.DraftProcess.{DraftProcess}
use Rattle.flow_net.specs.declared.draft.Link.{Link}
use Rattle.flow_net.specs.declared.draft.Binding.{Binding}
use Rattle.flow_net.specs.declared.draft.Binding.TheVariants.{Free, Receives, Sends, Given}
use Rattle.flow_net.specs.Drafts.{binding_at, is_stream_at}
use Rattle.flow_net.specs.Calls.{process_at, takes_text}
use Rattle.flow_net.specs.Options.{FitsPort}
use Rattle.flow_net.specs.Sound.{IsListed, IsSided, into_of, sender_at, text_at, is_input_at}
use Rattle.flow_net.proofs.Wiring.{Rebound, SameOutline, same_end_or_not, process_at-same, is_input_at-same, is_stream_at-same, takes_text-same, FitsPort-same}
use Rattle.flow_net.proofs.Steps.{OpensOne, SendsOne, GivesOne, map_some}

-- what is bound to an element is no other element's, where this one is free
apart : (ports : List DraftPort) (here end : End) (b : Binding) → binding_at ports here ≡ Some Free → binding_at ports end ≡ Some b → b ≢ Free → end ≢ here
apart ports here end b free is ne same =
    let both : Some b ≡ Some Free = sym is ∙ ap (binding_at ports) same ∙ free in
    ne (cc)

-- A connection that is opened at a free input keeps ports and connections in agreement.
pub IsListed-opened : (ports after : List DraftPort) (processes : List DraftProcess) (links linked : List Link) (n : ℕ) (into : End) → IsListed ports processes links → binding_at ports into ≡ Some Free → Rebound ports after into (Receives n) → SameOutline ports after → OpensOne links linked n into → IsListed after processes linked
IsListed-opened ports after processes links linked n into listed free bound outlined opens = record {
  receives = receives;
  received = received;
  sends = λ end c k h. opens.sends c k end (listed.sends end c k (sym (bound.others end (not_into end (Sends c k) h (λ e. cc))) ∙ h));
  sent = λ end c k h. kept end (Sends c k) (listed.sent end c k (opens.sent c k end h)) (λ e. cc);
  has = has;
  given = λ p k end text h.
      let was = listed.given p k end text h in
      (kept end (Given k) was.0 (λ e. cc), process_at-same ports after end outlined ∙ was.1);
}
  where
    kept : (end : End) (b : Binding) → binding_at ports end ≡ Some b → b ≢ Free → binding_at after end ≡ Some b
    kept end b is ne = bound.others end (apart ports into end b free is ne) ∙ is

    not_into : (end : End) (b : Binding) → binding_at after end ≡ Some b → b ≢ Receives n → end ≢ into
    not_into end b is ne same =
        let both : Some b ≡ Some (Receives n) = sym is ∙ ap (binding_at after) same ∙ bound.at in
        ne (cc)

    receives : (end : End) (c : ℕ) → binding_at after end ≡ Some (Receives c) → into_of linked c ≡ Some end
    receives end c h = by (same_end_or_not end into)
      where
        by : (end ≡ into) ⊎ (end ≢ into) → into_of linked c ≡ Some end
        by (inl same) =
            let both : Some (Receives c) ≡ Some (Receives n) = sym h ∙ ap (binding_at after) same ∙ bound.at in
            let number : c ≡ n = cc in
            ap (into_of linked) number ∙ opens.opened ∙ ap Some (sym same)
        by (inr ne) = opens.keeps c end (listed.receives end c (sym (bound.others end ne) ∙ h))

    received : (end : End) (c : ℕ) → into_of linked c ≡ Some end → binding_at after end ≡ Some (Receives c)
    received end c h = by (opens.cases c end h)
      where
        by : (into_of links c ≡ Some end) ⊎ ((c ≡ n) × (into ≡ end)) → binding_at after end ≡ Some (Receives c)
        by (inl old) = kept end (Receives c) (listed.received end c old) (λ e. cc)
        by (inr new) = ap (binding_at after) (sym new.1) ∙ bound.at ∙ ap (λ m. Some (Receives m)) (sym new.0)

    has : (end : End) (k : ℕ) → binding_at after end ≡ Some (Given k) → option_map (λ (text : End × List ℕ). text.0) (text_at processes (process_at after end) k) ≡ Some end
    has end k h =
        ap (λ p. option_map (λ (text : End × List ℕ). text.0) (text_at processes p k)) (process_at-same ports after end outlined)
        ∙ listed.has end k (sym (bound.others end (not_into end (Given k) h (λ e. cc))) ∙ h)

-- A sender that is added at a free output keeps ports and connections in agreement.
pub IsListed-sent : (ports after : List DraftPort) (processes : List DraftProcess) (links linked : List Link) (n k : ℕ) (out : End) → IsListed ports processes links → binding_at ports out ≡ Some Free → Rebound ports after out (Sends n k) → SameOutline ports after → SendsOne links linked n k out → IsListed after processes linked
IsListed-sent ports after processes links linked n k out listed free bound outlined sends_one = record {
  receives = λ end c h. sends_one.same c ∙ listed.receives end c (sym (bound.others end (not_out end (Receives c) h (λ e. cc))) ∙ h);
  received = λ end c h. kept end (Receives c) (listed.received end c (sym (sends_one.same c) ∙ h)) (λ e. cc);
  sends = sends;
  sent = sent;
  has = λ end j h.
      ap (λ p. option_map (λ (text : End × List ℕ). text.0) (text_at processes p j)) (process_at-same ports after end outlined)
      ∙ listed.has end j (sym (bound.others end (not_out end (Given j) h (λ e. cc))) ∙ h);
  given = λ p j end text h.
      let was = listed.given p j end text h in
      (kept end (Given j) was.0 (λ e. cc), process_at-same ports after end outlined ∙ was.1);
}
  where
    kept : (end : End) (b : Binding) → binding_at ports end ≡ Some b → b ≢ Free → binding_at after end ≡ Some b
    kept end b is ne = bound.others end (apart ports out end b free is ne) ∙ is

    not_out : (end : End) (b : Binding) → binding_at after end ≡ Some b → b ≢ Sends n k → end ≢ out
    not_out end b is ne same =
        let both : Some b ≡ Some (Sends n k) = sym is ∙ ap (binding_at after) same ∙ bound.at in
        ne (cc)

    sends : (end : End) (c j : ℕ) → binding_at after end ≡ Some (Sends c j) → sender_at linked c j ≡ Some end
    sends end c j h = by (same_end_or_not end out)
      where
        by : (end ≡ out) ⊎ (end ≢ out) → sender_at linked c j ≡ Some end
        by (inl same) =
            let both : Some (Sends c j) ≡ Some (Sends n k) = sym h ∙ ap (binding_at after) same ∙ bound.at in
            let number : c ≡ n = cc in
            let place : j ≡ k = cc in
            ap (λ m. sender_at linked m j) number ∙ ap (λ m. sender_at linked n m) place ∙ sends_one.added ∙ ap Some (sym same)
        by (inr ne) = sends_one.keeps c j end (listed.sends end c j (sym (bound.others end ne) ∙ h))

    sent : (end : End) (c j : ℕ) → sender_at linked c j ≡ Some end → binding_at after end ≡ Some (Sends c j)
    sent end c j h = by (sends_one.cases c j end h)
      where
        by : (sender_at links c j ≡ Some end) ⊎ ((c ≡ n) × (j ≡ k) × (out ≡ end)) → binding_at after end ≡ Some (Sends c j)
        by (inl old) = kept end (Sends c j) (listed.sent end c j old) (λ e. cc)
        by (inr new) =
            let binding : Sends n k ≡ Sends c j = cc (new.0, new.1) in
            ap (binding_at after) (sym new.2) ∙ bound.at ∙ ap Some binding

-- A text that is given to a free input keeps ports and texts in agreement.
pub IsListed-given : (ports after : List DraftPort) (processes texted : List DraftProcess) (links : List Link) (p k : ℕ) (input : End) (text : List ℕ) → IsListed ports processes links → binding_at ports input ≡ Some Free → process_at ports input ≡ p → Rebound ports after input (Given k) → SameOutline ports after → GivesOne processes texted p k input text → IsListed after texted links
IsListed-given ports after processes texted links p k input text listed free owner bound outlined gives = record {
  receives = λ end c h. listed.receives end c (sym (bound.others end (not_input end (Receives c) h (λ e. cc))) ∙ h);
  received = λ end c h. kept end (Receives c) (listed.received end c h) (λ e. cc);
  sends = λ end c j h. listed.sends end c j (sym (bound.others end (not_input end (Sends c j) h (λ e. cc))) ∙ h);
  sent = λ end c j h. kept end (Sends c j) (listed.sent end c j h) (λ e. cc);
  has = has;
  given = given;
}
  where
    kept : (end : End) (b : Binding) → binding_at ports end ≡ Some b → b ≢ Free → binding_at after end ≡ Some b
    kept end b is ne = bound.others end (apart ports input end b free is ne) ∙ is

    not_input : (end : End) (b : Binding) → binding_at after end ≡ Some b → b ≢ Given k → end ≢ input
    not_input end b is ne same =
        let both : Some b ≡ Some (Given k) = sym is ∙ ap (binding_at after) same ∙ bound.at in
        ne (cc)

    has : (end : End) (j : ℕ) → binding_at after end ≡ Some (Given j) → option_map (λ (t : End × List ℕ). t.0) (text_at texted (process_at after end) j) ≡ Some end
    has end j h = ap (λ q. option_map (λ (t : End × List ℕ). t.0) (text_at texted q j)) (process_at-same ports after end outlined) ∙ by (same_end_or_not end input)
      where
        by : (end ≡ input) ⊎ (end ≢ input) → option_map (λ (t : End × List ℕ). t.0) (text_at texted (process_at ports end) j) ≡ Some end
        by (inl same) =
            let both : Some (Given j) ≡ Some (Given k) = sym h ∙ ap (binding_at after) same ∙ bound.at in
            let place : j ≡ k = cc in
            ap (λ e. option_map (λ (t : End × List ℕ). t.0) (text_at texted (process_at ports e) j)) same
            ∙ ap (λ q. option_map (λ (t : End × List ℕ). t.0) (text_at texted q j)) owner
            ∙ ap (λ m. option_map (λ (t : End × List ℕ). t.0) (text_at texted p m)) place
            ∙ ap (option_map (λ (t : End × List ℕ). t.0)) gives.added
            ∙ ap Some (sym same)
        by (inr ne) =
            let was = map_some (λ (t : End × List ℕ). t.0) (text_at processes (process_at ports end) j) end (listed.has end j (sym (bound.others end ne) ∙ h)) in
            ap (option_map (λ (t : End × List ℕ). t.0)) (gives.keeps (process_at ports end) j was.0 was.1) ∙ ap Some was.2

    given : (q j : ℕ) (end : End) (t : List ℕ) → text_at texted q j ≡ Some (end, t) → (binding_at after end ≡ Some (Given j)) × (process_at after end ≡ q)
    given q j end t h = by (gives.cases q j (end, t) h)
      where
        by : (text_at processes q j ≡ Some (end, t)) ⊎ ((q ≡ p) × (j ≡ k) × (◌≡◌ {A = End × List ℕ} (input, text) (end, t))) → (binding_at after end ≡ Some (Given j)) × (process_at after end ≡ q)
        by (inl old) =
            let was = listed.given q j end t old in
            (kept end (Given j) was.0 (λ e. cc), process_at-same ports after end outlined ∙ was.1)
        by (inr new) =
            let same : input ≡ end = ap (λ (x : End × List ℕ). x.0) new.2 in
            (ap (binding_at after) (sym same) ∙ bound.at ∙ ap (λ m. Some (Given m)) (sym new.1), process_at-same ports after end outlined ∙ ap (process_at ports) (sym same) ∙ owner ∙ sym new.0)

-- Opening a connection at an input keeps every receiver an input.
pub IsSided-opened : (ports after : List DraftPort) (processes : List DraftProcess) (links linked : List Link) (n : ℕ) (into : End) → IsSided ports processes links → is_input_at ports into ≡ Some true → is_stream_at ports into ≡ true → SameOutline ports after → OpensOne links linked n into → IsSided after processes linked
IsSided-opened ports after processes links linked n into sided side stream outlined opens = record {
  into = at;
  sender = λ c k end h. is_input_at-same ports after end outlined ∙ sided.sender c k end (opens.sent c k end h);
  text = λ p k end text h.
      let was = sided.text p k end text h in
      (is_input_at-same ports after end outlined ∙ was.0, FitsPort-same ports after end.port text outlined was.1, was.2, takes_text-same ports after end outlined ∙ was.3);
}
  where
    at : (c : ℕ) (end : End) → into_of linked c ≡ Some end → (is_input_at after end ≡ Some true) × (is_stream_at after end ≡ true)
    at c end h = by (opens.cases c end h)
      where
        by : (into_of links c ≡ Some end) ⊎ ((c ≡ n) × (into ≡ end)) → (is_input_at after end ≡ Some true) × (is_stream_at after end ≡ true)
        by (inl old) =
            let was = sided.into c end old in
            (is_input_at-same ports after end outlined ∙ was.0, is_stream_at-same ports after end outlined ∙ was.1)
        by (inr new) =
            (is_input_at-same ports after end outlined ∙ ap (is_input_at ports) (sym new.1) ∙ side, is_stream_at-same ports after end outlined ∙ ap (is_stream_at ports) (sym new.1) ∙ stream)

-- Adding a sender at an output keeps every sender an output.
pub IsSided-sent : (ports after : List DraftPort) (processes : List DraftProcess) (links linked : List Link) (n k : ℕ) (out : End) → IsSided ports processes links → is_input_at ports out ≡ Some false → SameOutline ports after → SendsOne links linked n k out → IsSided after processes linked
IsSided-sent ports after processes links linked n k out sided side outlined sends_one = record {
  into = λ c end h.
      let was = sided.into c end (sym (sends_one.same c) ∙ h) in
      (is_input_at-same ports after end outlined ∙ was.0, is_stream_at-same ports after end outlined ∙ was.1);
  sender = at;
  text = λ p j end text h.
      let was = sided.text p j end text h in
      (is_input_at-same ports after end outlined ∙ was.0, FitsPort-same ports after end.port text outlined was.1, was.2, takes_text-same ports after end outlined ∙ was.3);
}
  where
    at : (c j : ℕ) (end : End) → sender_at linked c j ≡ Some end → is_input_at after end ≡ Some false
    at c j end h = is_input_at-same ports after end outlined ∙ by (sends_one.cases c j end h)
      where
        by : (sender_at links c j ≡ Some end) ⊎ ((c ≡ n) × (j ≡ k) × (out ≡ end)) → is_input_at ports end ≡ Some false
        by (inl old) = sided.sender c j end old
        by (inr new) = ap (is_input_at ports) (sym new.2) ∙ side

-- Giving a text that fits an input keeps every text at an input that it fits.
pub IsSided-given : (ports after : List DraftPort) (processes texted : List DraftProcess) (links : List Link) (p k : ℕ) (input : End) (text : List ℕ) → IsSided ports processes links → is_input_at ports input ≡ Some true → FitsPort (slice_get ports input.port) text → length text ≤ TEXT_LIMIT → takes_text ports input ≡ true → SameOutline ports after → GivesOne processes texted p k input text → IsSided after texted links
IsSided-given ports after processes texted links p k input text sided side fits short takes outlined gives = record {
  into = λ c end h.
      let was = sided.into c end h in
      (is_input_at-same ports after end outlined ∙ was.0, is_stream_at-same ports after end outlined ∙ was.1);
  sender = λ c j end h. is_input_at-same ports after end outlined ∙ sided.sender c j end h;
  text = at;
}
  where
    at : (q j : ℕ) (end : End) (t : List ℕ) → text_at texted q j ≡ Some (end, t) → (is_input_at after end ≡ Some true) × FitsPort (slice_get after end.port) t × (length t ≤ TEXT_LIMIT) × (takes_text after end ≡ true)
    at q j end t h = by (gives.cases q j (end, t) h)
      where
        by : (text_at processes q j ≡ Some (end, t)) ⊎ ((q ≡ p) × (j ≡ k) × (◌≡◌ {A = End × List ℕ} (input, text) (end, t))) → (is_input_at after end ≡ Some true) × FitsPort (slice_get after end.port) t × (length t ≤ TEXT_LIMIT) × (takes_text after end ≡ true)
        by (inl old) =
            let was = sided.text q j end t old in
            (is_input_at-same ports after end outlined ∙ was.0, FitsPort-same ports after end.port t outlined was.1, was.2, takes_text-same ports after end outlined ∙ was.3)
        by (inr new) =
            let e : input ≡ end = ap (λ (x : End × List ℕ). x.0) new.2 in
            let words : text ≡ t = ap (λ (x : End × List ℕ). x.1) new.2 in (
              is_input_at-same ports after end outlined ∙ ap (is_input_at ports) (sym e) ∙ side,
              FitsPort-same ports after end.port t outlined (subst (λ (x : End × List ℕ). FitsPort (slice_get ports x.0.port) x.1) new.2 fits),
              subst (λ (words : List ℕ). length words ≤ TEXT_LIMIT) words short,
              takes_text-same ports after end outlined ∙ ap (takes_text ports) (sym e) ∙ takes,
            )
