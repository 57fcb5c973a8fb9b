-- The kinds of lines and files: what is known of each.
use Rattle.std.proofs.Common.{◌≡◌, ◌≢◌, ℕ, zero, suc, ◌<◌, List, [], ◌∷◌, ◌++◌, map, length, refl, sym, ap, ◌∙◌, subst, arith, Bool, true, false, inl, inr, ◌⊎◌}
use Rattle.std.specs.List.{flat_map, list_any}
use Rattle.std.specs.Fmt.{decimal}
use Rattle.flow_packet.specs.Tree.{Tree}
use Rattle.flow_component.specs.Happenings.{Happening}
use Rattle.flow_component.specs.Runs.{EndedRun, got, sent, text_packet, StartsBring, Wakes}
use Rattle.flow_component.proofs.Texts.{text-brings, brings-more}
use Rattle.flow_parts.specs.ReadLines.{read_lines_rules}
use Rattle.flow_parts.specs.WriteLines.{write_lines_rules}
use Rattle.flow_parts.specs.declared.words.Words.{Words}
use Rattle.flow_parts.specs.Words.{words_rules}
use Rattle.flow_parts.specs.FillState.{FillState}
use Rattle.flow_parts.specs.Fill.{fill_rules}
use Rattle.flow_parts.specs.Filling.{Filling}
use Rattle.flow_parts.specs.declared.brackets.Brackets.{Brackets}
use Rattle.flow_parts.specs.Brackets.{brackets_rules}
use Rattle.flow_parts.specs.Count.{CountState, count_rules}
use Rattle.flow_parts.specs.Meanings.{fresh_fill, fresh_count, fresh_tally, rendered_all, words_of, bracketed, IsCounted, normals}
use Rattle.flow_parts.proofs.ReadLinesStream.{read_lines_meaning}
use Rattle.flow_parts.proofs.WriteLinesStream.{write_lines_meaning}
use Rattle.flow_parts.proofs.WordsStream.{words_meaning}
use Rattle.flow_parts.proofs.FillStream.{fill_meaning}
use Rattle.flow_parts.proofs.OneFilling.{one_filling}
use Rattle.flow_parts.specs.TallyState.{TallyState}
use Rattle.flow_parts.specs.Tally.{tally_rules}
use Rattle.flow_parts.specs.Tallied.{tallied}
use Rattle.flow_parts.proofs.TallyStream.{tally_meaning}
use Rattle.flow_parts.proofs.BracketsStream.{brackets_meaning}
use Rattle.flow_parts.proofs.CountStream.{count_meaning}
use Rattle.flow_catalogue.specs.declared.standard.Std.{Std}
use Rattle.flow_catalogue.specs.declared.standard.Std.TheVariants as components
use Rattle.flow_catalogue.specs.Components.{brackets_kind, count_kind, tally_kind, fill_kind, read_lines_kind, words_kind, write_lines_kind}
use Rattle.flow_model.specs.States.{Input, From, Text, Process}
use Rattle.flow_model.specs.Events.{is_connected}
use Rattle.flow_model.specs.Runs.{IsConnectedAt}
use Rattle.flow_meanings.specs.Means.{bytes_of}
use Rattle.flow_meanings.proofs.Over.{Over, Own, own, none-alone, single-ends, single-texts, no-texts}
use Rattle.flow_meanings.proofs.EndHeard.{write_lines-hears, words-hears, fill-hears, brackets-hears, count-hears, tally-hears}
use Rattle.flow_meanings.proofs.Facts.{Facts}

read_lines-own : (left : List (List ℕ)) (p : ℕ) (told : List Happening) (x : Process Std) → Over (components.ReadLines left) p told x → Own components.ReadLines read_lines_rules left told x
read_lines-own left p told x over = own components.ReadLines read_lines_kind (λ k. refl) left p told x over

-- The facts of ReadLines.
pub read_lines-facts : (left : List (List ℕ)) → Facts (components.ReadLines left)
read_lines-facts left = record {
  means = λ p told x first over. read_lines_meaning left told (read_lines-own left p told x over).run (over.run.has_run (none-alone x over.fits) over.ended);
  texts = λ p told x first over some. no-texts (components.ReadLines left) p told x true over refl;
  change = λ w w' x x' y y' same m. sym (same.outputs 0 refl) ∙ m;
  wrote_none = λ p told x over none. ap bytes_of (read_lines-own left p told x over).is;
  settles = λ s w w' x x' y y' ins m n o. one y y' o m n;
}
  where
    one : (y y' : ℕ → List Tree) (o : ℕ) → y 0 ≡ map text_packet left → y' 0 ≡ map text_packet left → o < 1 → y o ≡ y' o
    one y y' zero m n l = m ∙ sym n
    one y y' (suc o) m n l = absurd (omega arith)

write_lines-own : (bytes : List ℕ) (p : ℕ) (told : List Happening) (x : Process Std) → Over (components.WriteLines bytes) p told x → Own components.WriteLines write_lines_rules bytes told x
write_lines-own bytes p told x over = own components.WriteLines write_lines_kind (λ k. refl) bytes p told x over

-- The facts of WriteLines.
pub write_lines-facts : (bytes : List ℕ) → Facts (components.WriteLines bytes)
write_lines-facts bytes = record {
  means = λ p told x first over. (let o = write_lines-own bytes p told x over in ap bytes_of o.is ∙ write_lines_meaning bytes told o.run ∙ ap (λ (bs : List ℕ). bs ++ rendered_all (got 0 told)) first);
  texts = λ p told x first over some. single-texts (components.WriteLines bytes) p told x over refl some (write_lines-hears bytes told (write_lines-own bytes p told x over).run some);
  change = λ w w' x x' y y' same m. sym same.bytes ∙ m ∙ ap rendered_all (same.inputs 0 (omega arith));
  wrote_none = λ p told x over none. absurd (cc);
  settles = λ s w w' x x' y y' ins m n o l. absurd (omega arith);
}

-- a component with one output, whose stream follows from that at its one input
pub by-one : (f : List Tree → List Tree) (x x' y y' : ℕ → List Tree) → ((i : ℕ) → x i ≡ x' i) → y 0 ≡ f (x 0) → y' 0 ≡ f (x' 0) → (o : ℕ) → o < 1 → y o ≡ y' o
by-one f x x' y y' ins m n zero l = m ∙ ap f (ins 0) ∙ sym n
by-one f x x' y y' ins m n (suc o) l = absurd (omega arith)

words-own : (component : Words) (p : ℕ) (told : List Happening) (x : Process Std) → Over (components.Words component) p told x → Own components.Words words_rules component told x
words-own component p told x over = own components.Words words_kind (λ k. refl) component p told x over

-- The facts of Words.
pub words-facts : (component : Words) → Facts (components.Words component)
words-facts component = record {
  means = λ p told x first over. words_meaning told (subst (λ (w : Words). EndedRun words_rules w told) first (words-own component p told x over).run);
  texts = λ p told x first over some. single-texts (components.Words component) p told x over refl some (words-hears component told (words-own component p told x over).run some);
  change = λ w w' x x' y y' same m. sym (same.outputs 0 refl) ∙ m ∙ ap (λ (ts : List Tree). flat_map words_of ts) (same.inputs 0 (omega arith));
  wrote_none = λ p told x over none. ap bytes_of (words-own component p told x over).is;
  settles = λ s w w' x x' y y' ins m n. by-one (λ ts. flat_map words_of ts) x x' y y' ins m n;
}

fill-own : (state : FillState) (p : ℕ) (told : List Happening) (x : Process Std) → Over (components.Fill state) p told x → Own components.Fill fill_rules state told x
fill-own state p told x over = own components.Fill fill_kind (λ k. refl) state p told x over

fill-run : (state : FillState) (size : ℕ) (p : ℕ) (told : List Happening) (x : Process Std) → state ≡ fresh_fill size → Over (components.Fill state) p told x → EndedRun fill_rules (fresh_fill size) told
fill-run state size p told x first over = subst (λ (w : FillState). EndedRun fill_rules w told) first (fill-own state p told x over).run

-- The facts of Fill.
pub fill-facts : (state : FillState) → Facts (components.Fill state)
fill-facts state = record {
  means = λ p told x first over.
      subst (λ (w : FillState). Filling w.size (got 0 told) (sent 0 told)) (sym first.1) (fill_meaning first.0 told (fill-run state first.0 p told x first.1 over) (over.run.end_is_last 0 (single-ends x told over.run.once over.fits)));
  texts = λ p told x first over some. single-texts (components.Fill state) p told x over refl some (fill-hears first.0 told (fill-run state first.0 p told x first.1 over) some);
  change = λ w w' x x' y y' same m. subst (λ (b : List Tree). Filling state.size (x' 0) b) (same.outputs 0 refl) (subst (λ (a : List Tree). Filling state.size a (y 0)) (same.inputs 0 (omega arith)) m);
  wrote_none = λ p told x over none. ap bytes_of (fill-own state p told x over).is;
  settles = λ s w w' x x' y y' ins m n. one x x' y y' ins m n;
}
  where
    one : (x x' y y' : ℕ → List Tree) → ((i : ℕ) → x i ≡ x' i) → Filling state.size (x 0) (y 0) → Filling state.size (x' 0) (y' 0) → (o : ℕ) → o < 1 → y o ≡ y' o
    one x x' y y' ins m n zero l = one_filling state.size (x' 0) (y 0) (y' 0) (subst (λ (ts : List Tree). Filling state.size ts (y 0)) (ins 0) m) n
    one x x' y y' ins m n (suc o) l = absurd (omega arith)

brackets-own : (component : Brackets) (p : ℕ) (told : List Happening) (x : Process Std) → Over (components.Brackets component) p told x → Own components.Brackets brackets_rules component told x
brackets-own component p told x over = own components.Brackets brackets_kind (λ k. refl) component p told x over

-- The facts of Brackets.
pub brackets-facts : (component : Brackets) → Facts (components.Brackets component)
brackets-facts component = record {
  means = λ p told x first over. brackets_meaning component told (brackets-own component p told x over).run;
  texts = λ p told x first over some. single-texts (components.Brackets component) p told x over refl some (brackets-hears component told (brackets-own component p told x over).run some);
  change = λ w w' x x' y y' same m. sym (same.outputs 0 refl) ∙ m ∙ ap (λ (ts : List Tree). map bracketed ts) (same.inputs 0 (omega arith));
  wrote_none = λ p told x over none. ap bytes_of (brackets-own component p told x over).is;
  settles = λ s w w' x x' y y' ins m n. by-one (λ ts. map bracketed ts) x x' y y' ins m n;
}

-- Count

count-own : (state : CountState) (p : ℕ) (told : List Happening) (x : Process Std) → Over (components.Count state) p told x → Own components.Count count_rules state told x
count-own state p told x over = own components.Count count_kind (λ k. refl) state p told x over

count-run : (state : CountState) (p : ℕ) (told : List Happening) (x : Process Std) → state ≡ fresh_count state.connected → Over (components.Count state) p told x → EndedRun count_rules (fresh_count state.connected) told
count-run state p told x first over = subst (λ (w : CountState). EndedRun count_rules w told) first (count-own state p told x over).run

-- each start brings something at its one input
single-brings : (component : Std) (p : ℕ) (told : List Happening) (x : Process Std) → Over component p told x → (inputs : List Input) → x.inputs ≡ inputs → 1 ≡ length inputs → StartsBring (λ port. port ≡ 0) told
single-brings component p told x over [] is one = absurd (omega arith)
single-brings component p told x over (Text text ∷ []) is one = text-brings 0 text _ told (over.run.texts 0 text (ap (λ (inputs : List Input). Rattle.std.proofs.Common.slice_get inputs 0) is))
single-brings component p told x over (From c ∷ []) is one =
    brings-more (IsConnectedAt x.inputs) (λ port. port ≡ 0) (λ port at. first port (subst (λ (inputs : List Input). IsConnectedAt inputs port) is at)) told (over.run.starts_bring (ap (λ (inputs : List Input). list_any is_connected inputs) is))
  where
    first : (port : ℕ) → IsConnectedAt (From c ∷ []) port → port ≡ 0
    first zero at = refl
    first (suc port) at = absurd (let h = at.1 in cc)
single-brings component p told x over (i ∷ j ∷ inputs) is one = absurd (omega arith)

-- the streams of a Count, where its first output is connected or isn't
counted-change : (connected : Bool) (x x' y y' n n' : List Tree) → x ≡ x' → (connected ≡ true → y ≡ y') → (connected ≡ false → y' ≡ []) → n ≡ n' → IsCounted connected x y n → IsCounted connected x' y' n'
counted-change connected x x' y y' n n' e f g h m = record {
  passed = λ c. sym (f c) ∙ m.passed c ∙ e;
  silent = g;
  nothing = λ none. sym h ∙ m.nothing (e ∙ none);
  counted = λ some. sym h ∙ m.counted (λ none. some (sym e ∙ none)) ∙ ap (λ (ts : List Tree). text_packet (decimal (normals ts)) ∷ []) e;
}

-- the number that a Count sends follows from its stream
counted-same : (connected : Bool) (x x' y y' n n' : List Tree) → IsCounted connected x y n → IsCounted connected x' y' n' → x ≡ x' → n ≡ n'
counted-same connected [] x' y y' n n' m k e = m.nothing refl ∙ sym (k.nothing (sym e))
counted-same connected (t ∷ ts) x' y y' n n' m k e =
    m.counted (λ h. cc) ∙ ap (λ (us : List Tree). text_packet (decimal (normals us)) ∷ []) e ∙ sym (k.counted (λ h. (let z : t ∷ ts ≡ [] = e ∙ h in cc)))

-- and what it passes on
passed-same : (connected : Bool) (x x' y y' n n' : List Tree) → IsCounted connected x y n → IsCounted connected x' y' n' → x ≡ x' → y ≡ y'
passed-same true x x' y y' n n' m k e = m.passed refl ∙ e ∙ sym (k.passed refl)
passed-same false x x' y y' n n' m k e = m.silent refl ∙ sym (k.silent refl)

-- The facts of Count.
pub count-facts : (state : CountState) → Facts (components.Count state)
count-facts state = record {
  means = λ p told x first over.
      count_meaning state.connected told (count-run state p told x first over) (single-brings (components.Count state) p told x over x.inputs refl over.fits) (subst (λ (k : ℕ). Wakes k [] told) (sym over.fits) over.run.wakes) over.run.few;
  texts = λ p told x first over some. single-texts (components.Count state) p told x over refl some (count-hears state.connected told (count-run state p told x first over) some);
  change = λ w w' x x' y y' same m. counted-change state.connected (x 0) (x' 0) (y 0) (y' 0) (y 1) (y' 1) (same.inputs 0 (omega arith)) (λ c. same.outputs 0 c) (λ c. same.silent 0 (m.silent c)) (same.outputs 1 refl) m;
  wrote_none = λ p told x over none. ap bytes_of (count-own state p told x over).is;
  settles = λ s w w' x x' y y' ins m n. one x x' y y' ins m n;
}
  where
    one : (x x' y y' : ℕ → List Tree) → ((i : ℕ) → x i ≡ x' i) → IsCounted state.connected (x 0) (y 0) (y 1) → IsCounted state.connected (x' 0) (y' 0) (y' 1) → (o : ℕ) → o < 2 → y o ≡ y' o
    one x x' y y' ins m n zero l = passed-same state.connected (x 0) (x' 0) (y 0) (y' 0) (y 1) (y' 1) m n (ins 0)
    one x x' y y' ins m n (suc zero) l = counted-same state.connected (x 0) (x' 0) (y 0) (y' 0) (y 1) (y' 1) m n (ins 0)
    one x x' y y' ins m n (suc (suc o)) l = absurd (omega arith)

tally-own : (state : TallyState) (p : ℕ) (told : List Happening) (x : Process Std) → Over (components.Tally state) p told x → Own components.Tally tally_rules state told x
tally-own state p told x over = own components.Tally tally_kind (λ k. refl) state p told x over

tally-run : (state : TallyState) (p : ℕ) (told : List Happening) (x : Process Std) → state ≡ fresh_tally → Over (components.Tally state) p told x → EndedRun tally_rules fresh_tally told
tally-run state p told x first over = subst (λ (w : TallyState). EndedRun tally_rules w told) first (tally-own state p told x over).run

-- The facts of Tally.
pub tally-facts : (state : TallyState) → Facts (components.Tally state)
tally-facts state = record {
  means = λ p told x first over. tally_meaning told (tally-run state p told x first over) (over.run.end_is_last 0 (single-ends x told over.run.once over.fits)) over.run.few;
  texts = λ p told x first over some. single-texts (components.Tally state) p told x over refl some (tally-hears told (tally-run state p told x first over) some);
  change = λ w w' x x' y y' same m. sym (same.outputs 0 refl) ∙ m ∙ ap tallied (same.inputs 0 (omega arith));
  wrote_none = λ p told x over none. ap bytes_of (tally-own state p told x over).is;
  settles = λ s w w' x x' y y' ins m n. by-one tallied x x' y y' ins m n;
}
