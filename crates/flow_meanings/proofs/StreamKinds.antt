-- The kinds of streams: what is known of each.
use Rattle.std.proofs.Common.{◌≡◌, ◌≢◌, ℕ, zero, suc, ◌+◌, ◌<◌, ◌≤◌, List, [], ◌∷◌, ◌++◌, map, refl, sym, ap, ◌∙◌, subst, arith, true, false, nat_lt}
use Rattle.std.specs.List.{flat_map}
use Rattle.std.proofs.lemmas.Bool.Decides.{nat_tests}
use Rattle.flow_packet.specs.Tree.{Tree}
use Rattle.flow_packet.specs.Held.{Held}
use Rattle.flow_component.specs.Happenings.{Happening}
use Rattle.flow_component.specs.Runs.{EndedRun, got, sent, HeardEnd, Wakes, starts}
use Rattle.flow_streams.specs.declared.passthru.Passthru.{Passthru}
use Rattle.flow_streams.specs.Passthru.{passthru_rules}
use Rattle.flow_streams.specs.Copy.{CopyState, copy_rules}
use Rattle.flow_streams.specs.Concat.{ConcatState, concat_rules}
use Rattle.flow_streams.specs.CollateState.{CollateState}
use Rattle.flow_streams.specs.Collate.{collate_rules}
use Rattle.flow_streams.specs.Collated.{collation, listed}
use Rattle.flow_streams.specs.declared.discard.Discard.{Discard}
use Rattle.flow_streams.specs.Discard.{discard_rules}
use Rattle.flow_streams.specs.declared.bundle.Bundle.{Bundle}
use Rattle.flow_streams.specs.Bundle.{bundle_rules}
use Rattle.flow_streams.specs.Bundled as bundling
use Rattle.flow_streams.specs.Bundled.{bundled}
use Rattle.flow_streams.specs.declared.unbundle.Unbundle.{Unbundle}
use Rattle.flow_streams.specs.Unbundle.{unbundle_rules}
use Rattle.flow_streams.specs.Unbundled.{unbundled}
use Rattle.flow_streams.specs.declared.hoard.Hoard.{Hoard}
use Rattle.flow_streams.specs.Hoard.{hoard_rules}
use Rattle.flow_streams.specs.LoadBalance.{LoadState, load_rules}
use Rattle.flow_streams.specs.Meanings.{fresh_concat, got_from, share}
use Rattle.flow_streams.proofs.PassthruStream.{passthru_meaning}
use Rattle.flow_streams.proofs.CopyStream.{copy_meaning}
use Rattle.flow_streams.proofs.ConcatStream.{concat_meaning}
use Rattle.flow_streams.proofs.CollateStream.{collate_meaning}
use Rattle.flow_streams.proofs.BundleStream.{bundle_meaning}
use Rattle.flow_streams.proofs.UnbundleStream.{unbundle_meaning}
use Rattle.flow_streams.proofs.LoadStream.{load_meaning}
use Rattle.flow_catalogue.specs.declared.standard.Std.{Std}
use Rattle.flow_catalogue.specs.declared.standard.Std.TheVariants as components
use Rattle.flow_catalogue.specs.Components.{bundle_kind, collate_kind, concat_kind, copy_kind, discard_kind, hoard_kind, load_balance_kind, passthru_kind, unbundle_kind}
use Rattle.flow_model.specs.States.{Process}
use Rattle.flow_meanings.specs.Kinds.{joined}
use Rattle.flow_meanings.specs.Means.{IsFirst, bytes_of}
use Rattle.flow_meanings.proofs.Over.{Over, Own, own, texts-once, single-texts}
use Rattle.flow_meanings.proofs.EndHeard.{passthru-hears, copy-hears, discard-hears, bundle-hears, unbundle-hears, hoard-hears, load-hears}
use Rattle.flow_meanings.proofs.Facts.{Facts}
use Rattle.flow_meanings.proofs.LineKinds.{by-one}

passthru-own : (component : Passthru) (p : ℕ) (told : List Happening) (x : Process Std) → Over (components.Passthru component) p told x → Own components.Passthru passthru_rules component told x
passthru-own component p told x over = own components.Passthru passthru_kind (λ k. refl) component p told x over

-- The facts of Passthru.
pub passthru-facts : (component : Passthru) → Facts (components.Passthru component)
passthru-facts component = record {
  means = λ p told x first over. passthru_meaning component told (passthru-own component p told x over).run;
  texts = λ p told x first over some. single-texts (components.Passthru component) p told x over refl some (passthru-hears component told (passthru-own component p told x over).run some);
  change = λ w w' x x' y y' same m. sym (same.outputs 0 refl) ∙ m ∙ same.inputs 0 (omega arith);
  wrote_none = λ p told x over none. ap bytes_of (passthru-own component p told x over).is;
  settles = λ s w w' x x' y y' ins m n. by-one (λ ts. ts) x x' y y' ins m n;
}

below-true : (a b : ℕ) → a < b → nat_lt a b ≡ true
below-true a b l = grind (arith, nat_tests)

copy-own : (state : CopyState) (p : ℕ) (told : List Happening) (x : Process Std) → Over (components.Copy state) p told x → Own components.Copy copy_rules state told x
copy-own state p told x over = own components.Copy copy_kind (λ k. refl) state p told x over

-- The facts of Copy.
pub copy-facts : (state : CopyState) → Facts (components.Copy state)
copy-facts state = record {
  means = λ p told x first over o below. copy_meaning state.count told (subst (λ (w : CopyState). EndedRun copy_rules w told) first (copy-own state p told x over).run) o below;
  texts = λ p told x first over some. single-texts (components.Copy state) p told x over refl some (copy-hears state told (copy-own state p told x over).run some);
  change = λ w w' x x' y y' same m o l. sym (same.outputs o (below-true o state.count l)) ∙ m o l ∙ ap (λ (ts : List Tree). map (share state.count o) ts) (same.inputs 0 (omega arith));
  wrote_none = λ p told x over none. ap bytes_of (copy-own state p told x over).is;
  settles = λ s w w' x x' y y' ins m n o l. m o l ∙ ap (λ (ts : List Tree). map (share state.count o) ts) (ins 0) ∙ sym (n o l);
}

-- Concat

-- the first start is one
abbrev empty : ℕ → Held
empty p = record { maker = p; made = 0; packets = [] }

-- the streams of inputs, joined
joined-got : (k n : ℕ) (told : List Happening) → got_from k n told ≡ joined k n (λ i. got i told)
joined-got k zero told = refl
joined-got k (suc n) told = ap (λ ts. got k told ++ ts) (joined-got (k + 1) n told)

-- streams that are the same at each of n inputs from number k on are the same when joined
joined-same : (k n : ℕ) (x x' : ℕ → List Tree) → ((i : ℕ) → i < k + n → x i ≡ x' i) → joined k n x ≡ joined k n x'
joined-same k zero x x' same = refl
joined-same k (suc n) x x' same = λ j. same k (omega arith) j ++ joined-same (k + 1) n x x' (λ i l. same i (omega arith)) j

-- A Concat, with the facts that its meaning gives.
record Concats (state : ConcatState) (told : List Happening) : Type 0 where
  joins : sent 0 told ≡ joined 0 state.count (λ i. got i told)
  once : starts told ≤ 1
  heard : told ≢ [] → (i : ℕ) → i < state.count → HeardEnd i told

concats : (n : ℕ) (state : ConcatState) (told : List Happening) → state.count ≡ n → state ≡ fresh_concat state.count → 0 < n → EndedRun concat_rules state told → Wakes state.count [] told → Concats state told
concats zero state told is first some run wakes = absurd (omega arith)
concats (suc n) state told is first some run wakes =
    let count : state.count ≡ n + 1 = (let e = is in omega (arith, e)) in
    let same : state ≡ fresh_concat (n + 1) = first ∙ ap fresh_concat count in
    let m = concat_meaning n told (subst (λ (w : ConcatState). EndedRun concat_rules w told) same run) (subst (λ (k : ℕ). Wakes k [] told) count wakes) in
    record {
      joins = m.0 ∙ joined-got 0 (n + 1) told ∙ ap (λ (k : ℕ). joined 0 k (λ i. got i told)) (sym count);
      once = m.1;
      heard = λ some i below. m.2 some i (omega (arith, below, count));
    }

concat-own : (state : ConcatState) (p : ℕ) (told : List Happening) (x : Process Std) → Over (components.Concat state) p told x → Own components.Concat concat_rules state told x
concat-own state p told x over = own components.Concat concat_kind (λ k. refl) state p told x over

concat-over : (state : ConcatState) (p : ℕ) (told : List Happening) (x : Process Std) → IsFirst (components.Concat state) → Over (components.Concat state) p told x → Concats state told
concat-over state p told x first over =
    let ready : (state.at < state.count) × ([] ≡ []) = over.can_start (empty p) refl in
    concats state.count state told refl first (omega (arith, ready.0)) (concat-own state p told x over).run (subst (λ (k : ℕ). Wakes k [] told) (sym over.fits) over.run.wakes)

-- The facts of Concat.
pub concat-facts : (state : ConcatState) → Facts (components.Concat state)
concat-facts state = record {
  means = λ p told x first over. (concat-over state p told x first over).joins;
  texts = λ p told x first over some. (let c = concat-over state p told x first over in texts-once (components.Concat state) p told x over some c.once (λ i l. c.heard some i (omega (arith, l, over.fits))));
  change = λ w w' x x' y y' same m. sym (same.outputs 0 refl) ∙ m ∙ joined-same 0 state.count x x' (λ i l. same.inputs i (omega (arith, l)));
  wrote_none = λ p told x over none. ap bytes_of (concat-own state p told x over).is;
  settles = λ s w w' x x' y y' ins m n. one x x' y y' ins m n;
}
  where
    one : (x x' y y' : ℕ → List Tree) → ((i : ℕ) → x i ≡ x' i) → y 0 ≡ joined 0 state.count x → y' 0 ≡ joined 0 state.count x' → (o : ℕ) → o < 1 → y o ≡ y' o
    one x x' y y' ins m n zero l = m ∙ joined-same 0 state.count x x' (λ i below. ins i) ∙ sym n
    one x x' y y' ins m n (suc o) l = absurd (omega arith)

-- Collate

listed-same : (k n : ℕ) (x x' : ℕ → List Tree) → ((i : ℕ) → i < k + n → x i ≡ x' i) → listed k n x ≡ listed k n x'
listed-same k zero x x' same = refl
listed-same k (suc n) x x' same = λ j. same k (omega arith) j ∷ listed-same (k + 1) n x x' (λ i l. same i (omega arith)) j

collate-own : (state : CollateState) (p : ℕ) (told : List Happening) (x : Process Std) → Over (components.Collate state) p told x → Own components.Collate collate_rules state told x
collate-own state p told x over = own components.Collate collate_kind (λ k. refl) state p told x over

collate-over : (state : CollateState) (p : ℕ) (told : List Happening) (x : Process Std) → IsFirst (components.Collate state) → Over (components.Collate state) p told x
    → (sent 0 told ≡ collation state.fields (listed 0 state.elements (λ i. got i told))) × (starts told ≤ 1) × (told ≢ [] → (i : ℕ) → i < state.elements → HeardEnd i told)
collate-over state p told x first over =
    let some : 1 ≤ state.elements = (over.can_start (empty p) refl).0.some in
    collate_meaning state.fields state.elements told first.0 some (subst (λ (w : CollateState). EndedRun collate_rules w told) first.1 (collate-own state p told x over).run)
    (subst (λ (k : ℕ). Wakes k [] told) (sym over.fits) over.run.wakes)

-- The facts of Collate.
pub collate-facts : (state : CollateState) → Facts (components.Collate state)
collate-facts state = record {
  means = λ p told x first over. (collate-over state p told x first over).0;
  texts = λ p told x first over some. (let c = collate-over state p told x first over in texts-once (components.Collate state) p told x over some c.1 (λ i l. c.2 some i (omega (arith, l, over.fits))));
  change = λ w w' x x' y y' same m. sym (same.outputs 0 refl) ∙ m ∙ ap (collation state.fields) (listed-same 0 state.elements x x' (λ i l. same.inputs i (omega (arith, l))));
  wrote_none = λ p told x over none. ap bytes_of (collate-own state p told x over).is;
  settles = λ s w w' x x' y y' ins m n. one x x' y y' ins m n;
}
  where
    one : (x x' y y' : ℕ → List Tree) → ((i : ℕ) → x i ≡ x' i) → y 0 ≡ collation state.fields (listed 0 state.elements x) → y' 0 ≡ collation state.fields (listed 0 state.elements x') → (o : ℕ) → o < 1 → y o ≡ y' o
    one x x' y y' ins m n zero l = m ∙ ap (collation state.fields) (listed-same 0 state.elements x x' (λ i below. ins i)) ∙ sym n
    one x x' y y' ins m n (suc o) l = absurd (omega arith)

discard-own : (component : Discard) (p : ℕ) (told : List Happening) (x : Process Std) → Over (components.Discard component) p told x → Own components.Discard discard_rules component told x
discard-own component p told x over = own components.Discard discard_kind (λ k. refl) component p told x over

-- The facts of Discard.
pub discard-facts : (component : Discard) → Facts (components.Discard component)
discard-facts component = record {
  means = λ p told x first over. tt;
  texts = λ p told x first over some. single-texts (components.Discard component) p told x over refl some (discard-hears component told (discard-own component p told x over).run some);
  change = λ w w' x x' y y' same m. tt;
  wrote_none = λ p told x over none. ap bytes_of (discard-own component p told x over).is;
  settles = λ s w w' x x' y y' ins m n o l. absurd (omega arith);
}

hoard-own : (component : Hoard) (p : ℕ) (told : List Happening) (x : Process Std) → Over (components.Hoard component) p told x → Own components.Hoard hoard_rules component told x
hoard-own component p told x over = own components.Hoard hoard_kind (λ k. refl) component p told x over

-- The facts of Hoard.
pub hoard-facts : (component : Hoard) → Facts (components.Hoard component)
hoard-facts component = record {
  means = λ p told x first over. tt;
  texts = λ p told x first over some. single-texts (components.Hoard component) p told x over refl some (hoard-hears component told (hoard-own component p told x over).run some);
  change = λ w w' x x' y y' same m. tt;
  wrote_none = λ p told x over none. ap bytes_of (hoard-own component p told x over).is;
  settles = λ s w w' x x' y y' ins m n o l. absurd (omega arith);
}

bundle-own : (component : Bundle) (p : ℕ) (told : List Happening) (x : Process Std) → Over (components.Bundle component) p told x → Own components.Bundle bundle_rules component told x
bundle-own component p told x over = own components.Bundle bundle_kind (λ k. refl) component p told x over

-- The facts of Bundle.
pub bundle-facts : (component : Bundle) → Facts (components.Bundle component)
bundle-facts component = record {
  means = λ p told x first over. bundle_meaning told (subst (λ (w : Bundle). EndedRun bundle_rules w told) first (bundle-own component p told x over).run);
  texts = λ p told x first over some. single-texts (components.Bundle component) p told x over refl some (bundle-hears component told (bundle-own component p told x over).run some);
  change = λ w w' x x' y y' same m. sym (same.outputs 0 refl) ∙ m ∙ ap (bundled bundling.Outside) (same.inputs 0 (omega arith));
  wrote_none = λ p told x over none. ap bytes_of (bundle-own component p told x over).is;
  settles = λ s w w' x x' y y' ins m n. by-one (bundled bundling.Outside) x x' y y' ins m n;
}

unbundle-own : (component : Unbundle) (p : ℕ) (told : List Happening) (x : Process Std) → Over (components.Unbundle component) p told x → Own components.Unbundle unbundle_rules component told x
unbundle-own component p told x over = own components.Unbundle unbundle_kind (λ k. refl) component p told x over

-- The facts of Unbundle.
pub unbundle-facts : (component : Unbundle) → Facts (components.Unbundle component)
unbundle-facts component = record {
  means = λ p told x first over. unbundle_meaning told (subst (λ (w : Unbundle). EndedRun unbundle_rules w told) first (unbundle-own component p told x over).run);
  texts = λ p told x first over some. single-texts (components.Unbundle component) p told x over refl some (unbundle-hears component told (unbundle-own component p told x over).run some);
  change = λ w w' x x' y y' same m. sym (same.outputs 0 refl) ∙ m ∙ ap (λ (ts : List Tree). flat_map unbundled ts) (same.inputs 0 (omega arith));
  wrote_none = λ p told x over none. ap bytes_of (unbundle-own component p told x over).is;
  settles = λ s w w' x x' y y' ins m n. by-one (λ ts. flat_map unbundled ts) x x' y y' ins m n;
}

load-own : (state : LoadState) (p : ℕ) (told : List Happening) (x : Process Std) → Over (components.LoadBalance state) p told x → Own components.LoadBalance load_rules state told x
load-own state p told x over = own components.LoadBalance load_balance_kind (λ k. refl) state p told x over

-- The facts of LoadBalance.
pub load-facts : (state : LoadState) → Facts (components.LoadBalance state)
load-facts state = record {
  means = λ p told x first over. load_meaning state.count told (subst (λ (w : LoadState). EndedRun load_rules w told) first (load-own state p told x over).run);
  texts = λ p told x first over some. single-texts (components.LoadBalance state) p told x over refl some (load-hears state told (load-own state p told x over).run some);
  change = λ w w' x x' y y' same m. record { routes = m.routes; all = m.all ∙ same.inputs 0 (omega arith); each = λ o l. sym (same.outputs o (below-true o state.count l)) ∙ m.each o l; within = m.within; whole = m.whole };
  wrote_none = λ p told x over none. ap bytes_of (load-own state p told x over).is;
  settles = λ s w w' x x' y y' ins m n o l. absurd (let h : false ≡ true = s in cc);
}
