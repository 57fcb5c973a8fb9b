-- The number that a word spells, where it is one of so many.
use Rattle.std.proofs.Common.{◌≡◌, ◌≢◌, ℕ, zero, suc, ◌+◌, ◌<◌, ◌≤◌, Bool, true, false, List, ◌∷◌, Some, None, refl, sym, ap, subst, ◌∙◌, arith}
use Rattle.std.specs.Prelude.{find}
use Rattle.std.specs.Fmt.{decimal}
use Rattle.std.specs.List.{range_with_len}
use Rattle.std.specs.Str.{bytes_eq}
use Rattle.std.specs.Str.Parse.{AllDigits}
use Rattle.std.proofs.lemmas.Fmt.{decimal-digits_value, decimal_injective}
use Rattle.std.proofs.lemmas.Slice.Eq.{bytes_eq-Decides}
use Rattle.std.proofs.lemmas.Str.Parse.{numerals_by_value, tells_digits}
use Rattle.clap.specs.Walk.{Text}
use Rattle.flow_text.specs.Text.{IsPlain, number_of}
use Rattle.flow_text.proofs.Decimals.{decimal_plain, decimal_number}
use Rattle.flow_limits.specs.declared.TheConstants.{NUMBER_LIMIT, WORKER_LIMIT}
use Rattle.flow_words.specs.Numbers.{AreSpelled, spelled_in}

found-first : (p : ℕ → Bool) (n first : ℕ) (rest : List ℕ) → p n ≡ true → (p first ≡ true → first ≡ n) → (first ≢ n → find p rest ≡ Some n) → (b : Bool) → p first ≡ b → find p (first ∷ rest) ≡ Some n
found-first p n first rest here only later true is = rw is (ap Some (only is))
found-first p n first rest here only later false is = rw is (later (λ e. let passes : p first ≡ true = ap p e ∙ here in absurd cc))

-- The only number of a range that passes is found there.
found : (p : ℕ → Bool) (n first count : ℕ) → p n ≡ true → ((m : ℕ) → p m ≡ true → m < first + count → m ≡ n) → first ≤ n → n < first + count → find p (range_with_len first count) ≡ Some n
found p n first zero here only low high = absurd (omega arith)
found p n first (suc count) here only low high = found-first p n first (range_with_len (first + 1) count) here (λ passes. only first passes (omega arith))
    (λ other. found p n (first + 1) count here (λ m passes below. only m passes (omega arith)) (omega arith) (omega arith)) (p first) refl

none-first : (p : ℕ → Bool) (first : ℕ) (rest : List ℕ) → (p first ≡ true → ⊥) → find p rest ≡ None → (b : Bool) → p first ≡ b → find p (first ∷ rest) ≡ None
none-first p first rest never later true is = absurd (never is)
none-first p first rest never later false is = rw is later

-- Where no number of a range passes none is found.
none-found : (p : ℕ → Bool) (first count : ℕ) → ((m : ℕ) → p m ≡ true → first ≤ m → m < first + count → ⊥) → find p (range_with_len first count) ≡ None
none-found p first zero never = refl
none-found p first (suc count) never = none-first p first (range_with_len (first + 1) count) (λ passes. never first passes (omega arith) (omega arith))
    (none-found p (first + 1) count (λ m passes low high. never m passes (omega arith) (omega arith))) (p first) refl

-- The word spells one of so many numbers, from the least on.
abbrev pub IsSpelled : ℕ → ℕ → Text → Type 0
IsSpelled least count word = IsPlain word × (least ≤ number_of word) × (number_of word < least + count)

-- A plain word is the spelling of its number.
plain-spelling : (least count : ℕ) (word : Text) → least + count < 1000 → IsSpelled least count word → decimal (number_of word) ≡ word
plain-spelling least count word few is =
    let most = is.2 in decimal-digits_value (numerals_by_value (AllDigits 10) tells_digits) word is.0.0.1 is.0.0.0 is.0.1 (omega (arith, most, few))

-- Such a word has its number.
pub spelled : (least count : ℕ) (word : Text) → least + count < 1000 → IsSpelled least count word → spelled_in least count word ≡ Some (number_of word)
unfolding spelled_in
spelled least count word few is =
    let low = is.1 in
    let high = is.2 in
    let spelling : decimal (number_of word) ≡ word = plain-spelling least count word few is in
    found (λ m. bytes_eq (decimal m) word) (number_of word) least count ((bytes_eq-Decides (decimal (number_of word)) word).1 spelling)
    (λ m passes below. decimal_injective m (number_of word) (omega (arith, below, few)) (omega (arith, high, few)) ((bytes_eq-Decides (decimal m) word).0 passes ∙ sym spelling))
    low high

-- The spelling of one of the numbers is such a word.
own : (least count number : ℕ) → least + count < 1000 → least ≤ number → number < least + count → IsSpelled least count (decimal number)
own least count number few low high =
    let is : number_of (decimal number) ≡ number = decimal_number number (omega (arith, high, few)) in
    (decimal_plain number (omega (arith, high, few)), omega (arith, is, low), omega (arith, is, high))

-- And it has this number.
pub own-number : (least count number : ℕ) → least + count < 1000 → least ≤ number → number < least + count → spelled_in least count (decimal number) ≡ Some number
own-number least count number few low high =
    spelled least count (decimal number) few (own least count number few low high) ∙ ap Some (decimal_number number (omega (arith, high, few)))

-- No other word has one.
pub not-spelled : (least count : ℕ) (word : Text) → least + count < 1000 → (IsSpelled least count word → ⊥) → spelled_in least count word ≡ None
unfolding spelled_in
not-spelled least count word few never =
    none-found (λ m. bytes_eq (decimal m) word) least count
    (λ m passes low high. never (subst (IsSpelled least count) ((bytes_eq-Decides (decimal m) word).0 passes) (own least count m few low high)))

-- So it is with the numbers of a command line.
pub are-spelled : AreSpelled
are-spelled = (
  λ n least most. own-number 1 NUMBER_LIMIT n (omega arith) least (omega (arith, most)),
  λ n most. own-number 0 (WORKER_LIMIT + 1) n (omega arith) (omega arith) (omega (arith, most)),
)
