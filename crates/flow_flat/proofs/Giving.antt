-- The next text: a draft that agrees with a text takes it where the text does, and agrees with it afterwards.
use Rattle.flow_limits.specs.declared.TheConstants.{TEXT_LIMIT}
use Rattle.std.proofs.Common.{◌≡◌, ◌≢◌, ℕ, Bool, true, false, List, [], ◌∷◌, ◌++◌, map, length, zero, suc, ◌≤◌, Option, Some, None, Ok, Err, IsSome, refl, ap, sym, subst, ◌∙◌, ◌⊎◌, inl, inr, slice_get}
use Rattle.std.specs.Prelude.{◌==◌, ◌||◌, not, if◌then◌else◌}
use Rattle.std.specs.Option.{option_map}
use Rattle.std.specs.declared.result.Result.{Result}
use Rattle.std.proofs.lemmas.List.{append-nil}
use Rattle.std.proofs.lemmas.List.Elements.{filter-append}
use Rattle.std.proofs.lemmas.Option.{slice_get-map}
use Rattle.flow_net.specs.declared.draft.End.{End}
use Rattle.flow_net.specs.declared.draft.Binding.TheVariants.{Given}
use Rattle.flow_net.specs.declared.draft.DraftPort.{DraftPort}
use Rattle.flow_net.specs.declared.draft.DraftProcess.{DraftProcess}
use Rattle.flow_net.specs.declared.fault.PlanFault.{PlanFault}
use Rattle.flow_net.specs.declared.fault.PlanFault.TheVariants.{PortUnknown, PortTaken, BadOption}
use Rattle.flow_plan.specs.declared.kind.KindSpec.{KindSpec}
use Rattle.flow_plan.specs.declared.kind.PortRef.{PortRef}
use Rattle.flow_net.specs.Drafts.{Draft, ◌>>=◌, refused_if, binding_at, updated}
use Rattle.flow_net.specs.Calls.{process_of_name, end_of_port, input_for, is_taken, given as gives, with_text, process_at, next_text, takes_text}
use Rattle.flow_net.specs.Options.{FitsPort}
use Rattle.flow_net.proofs.Ends.{bind_ok, ok_or_ok, eqb_true, IsThere, IsThere-named}
use Rattle.flow_net.proofs.Places.{same_or_not, slice_get-updated_same, slice_get-updated_other}
use Rattle.flow_net.proofs.Sides.{eqb_refl}
use Rattle.flow_net.proofs.SoundGives.{IsSound-given, IsOpen, IsOpen-for}
use Rattle.flow_net.proofs.Bindings.{bound-keeps}
use Rattle.flow_net.proofs.Wiring.{slice_get-push_cases}
use Rattle.flow_net.proofs.Steps.{map_some}
use Rattle.flow_flat.specs.Names.{PortAt, Join, text_end}
use Rattle.flow_flat.specs.Faults.{receives, has_text, is_textual, text_test, FitsAt, TextTest}
use Rattle.flow_flat.proofs.Lookups.{bare, called, input_is, textual_is}
use Rattle.flow_flat.proofs.Agrees.{Agrees, owner, texts_at, owner_is}
use Rattle.flow_flat.proofs.Joining.{input_taken, bare_bound}

pub reassociate : {A B C : Type 0} (m : Result A PlanFault) (f : A → Result B PlanFault) (g : B → Result C PlanFault) → ((m >>= f) >>= g) ≡ (m >>= λ x. f x >>= g)
reassociate (Ok a) f g = refl
reassociate (Err fault) f g = refl

called_updated : (f : DraftProcess → DraftProcess) → ((b : DraftProcess) → called (f b) ≡ called b) → (bs : List DraftProcess) (p : ℕ) → map called (updated f bs p) ≡ map called bs
called_updated f same [] p = refl
called_updated f same (b ∷ bs) zero = ap (λ x. x ∷ map called bs) (same b)
called_updated f same (b ∷ bs) (suc p) = ap (λ xs. called b ∷ xs) (called_updated f same bs p)

eqb_not : (m n : ℕ) → m ≢ n → (m == n) ≡ false
eqb_not m n ne = by (m == n) refl where
  by : (b : Bool) → (m == n) ≡ b → b ≡ false
  by false is = refl
  by true is = absurd (ne (eqb_true m n is))

fits_at : (ports : List DraftPort) (at : List PortAt) (g : ℕ) (text : List ℕ) → map bare ports ≡ at → FitsPort (slice_get ports g) text → FitsAt (slice_get at g) text
fits_at ports at g text same fits = subst (λ (l : List PortAt). FitsAt (slice_get l g) text) same (subst (λ (o : Option PortAt). FitsAt o text) (sym (slice_get-map bare ports g)) (by (slice_get ports g) fits))
  where
    by : (o : Option DraftPort) → FitsPort o text → FitsAt (option_map bare o) text
    by None fits = absurd fits
    by (Some port) fits = fits

fits_back : (ports : List DraftPort) (at : List PortAt) (g : ℕ) (text : List ℕ) → map bare ports ≡ at → FitsAt (slice_get at g) text → FitsPort (slice_get ports g) text
fits_back ports at g text same fits = by (slice_get ports g) (subst (λ (o : Option PortAt). FitsAt o text) (slice_get-map bare ports g) (subst (λ (l : List PortAt). FitsAt (slice_get l g) text) (sym same) fits))
  where
    by : (o : Option DraftPort) → FitsAt (option_map bare o) text → FitsPort o text
    by None fits = absurd fits
    by (Some port) fits = fits

-- A text that passes its test has an input to go to.
pub text_test_end : (ps : List (List ℕ × List ℕ)) (at : List PortAt) (joins : List Join) (given : List (End × List ℕ)) (to : List ℕ) (into : PortRef) (input : End) → text_test ps at joins given to into ≡ Ok input → text_end ps at to into ≡ Ok input
text_test_end ps at joins given to into input is =
    let end = bind_ok (text_end ps at to into) (λ input. refused_if (not (is_textual at input)) (PortUnknown to into) >>= λ textual. refused_if (receives joins input || has_text given input) (PortTaken to into) >>= λ free. Ok input) input is in
    let textual = bind_ok (refused_if (not (is_textual at end.0)) (PortUnknown to into)) (λ textual. refused_if (receives joins end.0 || has_text given end.0) (PortTaken to into) >>= λ free. Ok end.0) input end.2 in
    let free = bind_ok (refused_if (receives joins end.0 || has_text given end.0) (PortTaken to into)) (λ free. Ok end.0) input textual.2 in
    let same : end.0 ≡ input = cc (free.2) in
    end.1 ∙ ap Ok same

module _ (table : List KindSpec) (ps : List (List ℕ × List ℕ)) (at : List PortAt) (joins : List Join) (given : List (End × List ℕ)) (draft : Draft) (agrees : Agrees table ps at joins given draft) where
  pub input_alike : (to : List ℕ) (into : PortRef) → (process_of_name draft.processes to >>= λ receiver. end_of_port draft.ports receiver true to into) ≡ text_end ps at to into
  input_alike to into = input_is draft.processes draft.ports to into ∙ ap (λ (l : List (List ℕ × List ℕ)). text_end l (map bare draft.ports) to into) agrees.names ∙ ap (λ (l : List PortAt). text_end ps l to into) agrees.ports

  -- What a draft says of the input of the next text is what the text says.
  pub text_alike : (to : List ℕ) (into : PortRef) → input_for draft.processes draft.ports to into ≡ text_test ps at joins given to into
  text_alike to into =
      outer (process_of_name draft.processes to) ∙ sym (reassociate (process_of_name draft.processes to) (λ receiver. end_of_port draft.ports receiver true to into) (taken draft.ports))
      ∙ by (process_of_name draft.processes to >>= λ receiver. end_of_port draft.ports receiver true to into) refl
      ∙ ap (λ (r : Result End PlanFault). r >>= λ input. refused_if (not (is_textual at input)) (PortUnknown to into) >>= λ textual. refused_if (receives joins input || has_text given input) (PortTaken to into) >>= λ free. Ok input) (input_alike to into)
    where
      taken : List DraftPort → End → Result End PlanFault
      taken ports input = refused_if (not (takes_text ports input)) (PortUnknown to into) >>= λ textual. refused_if (is_taken (binding_at ports input)) (PortTaken to into) >>= λ unbound. Ok input

      outer : (m : Result ℕ PlanFault) → ◌≡◌ {A = Result End PlanFault} (m >>= λ receiver. end_of_port draft.ports receiver true to into >>= λ input. refused_if (not (takes_text draft.ports input)) (PortUnknown to into) >>= λ textual. refused_if (is_taken (binding_at draft.ports input)) (PortTaken to into) >>= λ unbound. Ok input)
          (m >>= λ receiver. end_of_port draft.ports receiver true to into >>= taken draft.ports)
      outer (Ok r) = refl
      outer (Err fault) = refl

      there : (input : End) → (process_of_name draft.processes to >>= λ receiver. end_of_port draft.ports receiver true to into) ≡ Ok input → (p : ℕ) × IsThere draft.ports p true input
      there input is =
          let receiver = bind_ok (process_of_name draft.processes to) (λ receiver. end_of_port draft.ports receiver true to into) input is in
          (receiver.0, IsThere-named draft.ports (length draft.processes) receiver.0 true into input agrees.sound.ports (ok_or_ok _ _ input receiver.2))

      by : (r : Result End PlanFault) → (process_of_name draft.processes to >>= λ receiver. end_of_port draft.ports receiver true to into) ≡ r
          → (r >>= taken draft.ports) ≡ (r >>= λ input. refused_if (not (is_textual at input)) (PortUnknown to into) >>= λ textual. refused_if (receives joins input || has_text given input) (PortTaken to into) >>= λ free. Ok input)
      by (Err fault) is = refl
      by (Ok input) is =
          let found = there input is in
          ap (λ (t : Bool). let end : Result End PlanFault = refused_if (not t) (PortUnknown to into) >>= λ textual. refused_if (is_taken (binding_at draft.ports input)) (PortTaken to into) >>= λ unbound. Ok input in end) (textual_is draft.ports input ∙ ap (λ (l : List PortAt). is_textual l input) agrees.ports)
          ∙ ap (λ (b : Bool). let end : Result End PlanFault = refused_if (not (is_textual at input)) (PortUnknown to into) >>= λ textual. refused_if b (PortTaken to into) >>= λ free. Ok input in end) (input_taken table ps at joins given draft agrees input found.1.side found.1.bound)

  -- A text that a draft takes, the text takes.
  pub takes : (text to : List ℕ) (into : PortRef) (input : End) → input_for draft.processes draft.ports to into ≡ Ok input → FitsPort (slice_get draft.ports input.port) text → TextTest ps at joins given text to into (Ok tt)
  takes text to into input is fits = (input, sym (text_alike to into) ∙ is, fits_at draft.ports at input.port text agrees.ports fits)

  -- One that it refuses, the text refuses for the same.
  pub refuses : (text to : List ℕ) (into : PortRef) (fault : PlanFault)
      → (input_for draft.processes draft.ports to into ≡ Err fault) ⊎ ((fault ≡ BadOption to into) × ((input : End) × (input_for draft.processes draft.ports to into ≡ Ok input) × (FitsPort (slice_get draft.ports input.port) text → ⊥)))
      → TextTest ps at joins given text to into (Err fault)
  refuses text to into fault (inl is) = inl (sym (text_alike to into) ∙ is)
  refuses text to into fault (inr unfit) = inr (unfit.0, unfit.1.0, sym (text_alike to into) ∙ unfit.1.1, λ fits. unfit.1.2 (fits_back draft.ports at unfit.1.0.port text agrees.ports fits))

  -- The draft with one more text agrees with the text with one more text.
  pub agrees_given : (text to : List ℕ) (into : PortRef) (input : End) → length text ≤ TEXT_LIMIT → input_for draft.processes draft.ports to into ≡ Ok input → FitsPort (slice_get draft.ports input.port) text
      → Agrees table ps at joins (given ++ (input, text) ∷ []) (gives draft input text)
  agrees_given text to into input short is fits = record {
    sound = IsSound-given draft text to into input agrees.sound is fits short;
    kinds = agrees.kinds;
    names = called_updated (with_text input text) (λ b. refl) draft.processes (process_at draft.ports input) ∙ agrees.names;
    ports = bare_bound draft.ports input.port input.element (Given (next_text (slice_get draft.processes (process_at draft.ports input)))) ∙ agrees.ports;
    links = agrees.links;
    texts = texts;
    there = λ k t at_k. kept k t (slice_get-push_cases given (input, text) t k at_k);
  }
    where
      open_input : IsOpen draft.ports input
      open_input = IsOpen-for draft.processes draft.ports (length draft.processes) to into input agrees.sound.ports is

      kept : (k : ℕ) (t : End × List ℕ) → (slice_get given k ≡ Some t) ⊎ ((k ≡ length given) × ((input, text) ≡ t)) → IsSome (binding_at (gives draft input text).ports t.0)
      kept k t (inl old) = bound-keeps draft.ports input t.0 (Given (next_text (slice_get draft.processes (process_at draft.ports input)))) (agrees.there k t old)
      kept k t (inr new) =
          let same : input ≡ t.0 = ap (λ (x : End × List ℕ). x.0) new.1 in
          subst (λ (e : End). IsSome (binding_at (gives draft input text).ports e)) same (bound-keeps draft.ports input input (Given (next_text (slice_get draft.processes (process_at draft.ports input)))) open_input.there.bound)

      owned : owner at input ≡ process_at draft.ports input
      owned = sym (owner_is draft.ports input ∙ ap (λ (l : List PortAt). owner l input) agrees.ports)

      pushed : (p : ℕ) → texts_at at (given ++ (input, text) ∷ []) p ≡ texts_at at given p ++ (if owner at input == p then (input, text) ∷ [] else [])
      pushed p = filter-append (λ (t : End × List ℕ). owner at t.0 == p) given ((input, text) ∷ [])

      mine : (p : ℕ) (begun : DraftProcess) → p ≡ process_at draft.ports input → slice_get (updated (with_text input text) draft.processes (process_at draft.ports input)) p ≡ Some begun → begun.texts ≡ texts_at at (given ++ (input, text) ∷ []) p
      mine p begun same here =
          let old = map_some (with_text input text) (slice_get draft.processes p) begun (sym (slice_get-updated_same (with_text input text) draft.processes p) ∙ ap (λ (q : ℕ). slice_get (updated (with_text input text) draft.processes q) p) same ∙ here) in
          ap (λ (b : DraftProcess). b.texts) (sym old.2) ∙ ap (λ (l : List (End × List ℕ)). l ++ (input, text) ∷ []) (agrees.texts p old.0 old.1)
          ∙ ap (λ (b : Bool). texts_at at given p ++ (if b then (input, text) ∷ [] else [])) (sym (ap (λ (n : ℕ). n == p) (owned ∙ sym same) ∙ eqb_refl p)) ∙ sym (pushed p)

      other : (p : ℕ) (begun : DraftProcess) → p ≢ process_at draft.ports input → slice_get (updated (with_text input text) draft.processes (process_at draft.ports input)) p ≡ Some begun → begun.texts ≡ texts_at at (given ++ (input, text) ∷ []) p
      other p begun ne here =
          agrees.texts p begun (sym (slice_get-updated_other (with_text input text) draft.processes (process_at draft.ports input) p ne) ∙ here)
          ∙ sym (append-nil (texts_at at given p)) ∙ ap (λ (b : Bool). texts_at at given p ++ (if b then (input, text) ∷ [] else [])) (sym (eqb_not (owner at input) p (λ e. ne (sym e ∙ owned)))) ∙ sym (pushed p)

      texts : (p : ℕ) (begun : DraftProcess) → slice_get (updated (with_text input text) draft.processes (process_at draft.ports input)) p ≡ Some begun → begun.texts ≡ texts_at at (given ++ (input, text) ∷ []) p
      texts p begun here = by (same_or_not p (process_at draft.ports input)) where
        by : (p ≡ process_at draft.ports input) ⊎ (p ≢ process_at draft.ports input) → begun.texts ≡ texts_at at (given ++ (input, text) ∷ []) p
        by (inl same) = mine p begun same here
        by (inr ne) = other p begun ne here
