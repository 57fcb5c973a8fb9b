-- What the groups of sorted texts come to, one after another, is what their book has.
use Rattle.std.proofs.Common.{◌≡◌, ℕ, Bool, true, false, List, [], ◌∷◌, ◌++◌, filter, Option, Some, None, refl, sym, ap, ◌∙◌, subst, cond, if◌then◌else◌}
use Rattle.std.specs.Ordering.{nat_cmp}
use Rattle.std.specs.Cmp.Lexicographic.{slice_cmp}
use Rattle.std.specs.declared.cmp.Ordering.TheVariants.{Less}
use Rattle.std.specs.List.{AllByRecursion}
use Rattle.std.specs.List.Sorted.{IsStrictlySortedBy}
use Rattle.std.specs.Map.{keys_of, lookup}
use Rattle.std.specs.Str.{bytes_eq}
use Rattle.flow_batch.specs.Records.{key_in, posted, balance_after, refused_by}
use Rattle.flow_batch.specs.declared.records.Posting.{Posting}
use Rattle.flow_batch.specs.declared.records.Posting.TheVariants.{Applied, Refused}
use Rattle.flow_batch.specs.Ledger.{Entry, is_greater, IsSorted, has_key}
use Rattle.flow_batch.proofs.Keys.{same_bytes, equal-bytes, turned-bytes, not-greater, up, less-key, less-then_up, less-other}
use Rattle.std.proofs.lemmas.List.Elements.{filter-append}
use Rattle.flow_batch.proofs.Classes.{group_balance, group_refused, one-kept, one-left}
use Rattle.flow_batch.proofs.Merges.{all-then, none-above}

-- The entry of a group, where it has a balance.
abbrev pub entry_of : List ℕ → Option ℕ → List Entry
entry_of key None = []
entry_of key (Some amount) = (key, amount) ∷ []

-- The entries from a group on that has come to this balance.
abbrev pub entries_from : ℕ → List ℕ → Option ℕ → List (List ℕ) → List Entry
entries_from keylen key balance [] = entry_of key balance
entries_from keylen key balance (t ∷ ts) =
    if has_key keylen key t then entries_from keylen key (balance_after balance (posted keylen key balance t)) ts
    else entry_of key balance ++ entries_from keylen (key_in keylen t) (balance_after None (posted keylen (key_in keylen t) None t)) ts

-- The texts that are refused from there on.
abbrev pub refusals_from : ℕ → List ℕ → Option ℕ → List (List ℕ) → List (List ℕ)
refusals_from keylen key balance [] = []
refusals_from keylen key balance (t ∷ ts) =
    if has_key keylen key t then refused_by t (posted keylen key balance t) ++ refusals_from keylen key (balance_after balance (posted keylen key balance t)) ts
    else refused_by t (posted keylen (key_in keylen t) None t) ++ refusals_from keylen (key_in keylen t) (balance_after None (posted keylen (key_in keylen t) None t)) ts

-- All entries, and all refused texts.
abbrev pub entries : ℕ → List (List ℕ) → List Entry
entries keylen [] = []
entries keylen (t ∷ ts) = entries_from keylen (key_in keylen t) (balance_after None (posted keylen (key_in keylen t) None t)) ts

abbrev pub refusals : ℕ → List (List ℕ) → List (List ℕ)
refusals keylen [] = []
refusals keylen (t ∷ ts) = refused_by t (posted keylen (key_in keylen t) None t) ++ refusals_from keylen (key_in keylen t) (balance_after None (posted keylen (key_in keylen t) None t)) ts

-- The texts that are to come have this key or greater ones.
abbrev pub Above : ℕ → List ℕ → List (List ℕ) → Type 0
Above keylen key ts = AllByRecursion (λ t. is_greater key (key_in keylen t) ≡ false) ts

all-append : {X : Type 0} (P : X → Type 0) (xs ys : List X) → AllByRecursion P xs → AllByRecursion P ys → AllByRecursion P (xs ++ ys)
all-append P [] ys px py = py
all-append P (x ∷ xs) ys px py = (px.0, all-append P xs ys px.1 py)

-- all keys of the entries are this one or greater
all-entry : (q key : List ℕ) (balance : Option ℕ) → is_greater q key ≡ false → AllByRecursion (λ e. is_greater q e ≡ false) (keys_of (entry_of key balance))
all-entry q key None g = tt
all-entry q key (Some amount) g = (g, tt)

keys-append : (xs ys : List Entry) → keys_of (xs ++ ys) ≡ keys_of xs ++ keys_of ys
keys-append [] ys = refl
keys-append (x ∷ xs) ys = ap (λ (ks : List (List ℕ)). x.0 ∷ ks) (keys-append xs ys)

above-entries : (keylen : ℕ) (q key : List ℕ) (balance : Option ℕ) (ts : List (List ℕ)) → is_greater q key ≡ false → Above keylen key ts → IsSorted keylen ts → AllByRecursion (λ k. is_greater q k ≡ false) (keys_of (entries_from keylen key balance ts))
above-entries keylen q key balance [] g a s = all-entry q key balance g
above-entries keylen q key balance (t ∷ ts) g a s =
    by (has_key keylen key t) refl (above-entries keylen q key (balance_after balance (posted keylen key balance t)) ts g a.1 s.1)
    (above-entries keylen q k (balance_after None (posted keylen k None t)) ts (up q key k g a.0) s.0 s.1)
  where
    k : List ℕ
    k = key_in keylen t

    by : (b : Bool) → has_key keylen key t ≡ b → AllByRecursion (λ x. is_greater q x ≡ false) (keys_of (entries_from keylen key (balance_after balance (posted keylen key balance t)) ts))
        → AllByRecursion (λ x. is_greater q x ≡ false) (keys_of (entries_from keylen (key_in keylen t) (balance_after None (posted keylen (key_in keylen t) None t)) ts))
        → AllByRecursion (λ x. is_greater q x ≡ false)
        (keys_of (if b then entries_from keylen key (balance_after balance (posted keylen key balance t)) ts else entry_of key balance ++ entries_from keylen (key_in keylen t) (balance_after None (posted keylen (key_in keylen t) None t)) ts))
    by true is one two = one
    by false is one two =
        subst (AllByRecursion (λ x. is_greater q x ≡ false)) (sym (keys-append (entry_of key balance) (entries_from keylen (key_in keylen t) (balance_after None (posted keylen (key_in keylen t) None t)) ts)))
        (all-append (λ x. is_greater q x ≡ false) (keys_of (entry_of key balance)) (keys_of (entries_from keylen (key_in keylen t) (balance_after None (posted keylen (key_in keylen t) None t)) ts)) (all-entry q key balance g) two)

-- an entry before entries with greater keys
entry-first : (key : List ℕ) (balance : Option ℕ) (es : List Entry) → AllByRecursion (λ k. slice_cmp nat_cmp key k ≡ Less) (keys_of es) → IsStrictlySortedBy (slice_cmp nat_cmp) (keys_of es)
    → IsStrictlySortedBy (slice_cmp nat_cmp) (keys_of (entry_of key balance ++ es))
unfolding IsStrictlySortedBy
entry-first key None es above s = s
entry-first key (Some amount) es above s = (above, s)

-- The keys of the entries ascend.
pub entries-ascend : (keylen : ℕ) (key : List ℕ) (balance : Option ℕ) (ts : List (List ℕ)) → Above keylen key ts → IsSorted keylen ts → IsStrictlySortedBy (slice_cmp nat_cmp) (keys_of (entries_from keylen key balance ts))
unfolding IsStrictlySortedBy
entries-ascend keylen key None [] a s = tt
entries-ascend keylen key (Some amount) [] a s = (tt, tt)
entries-ascend keylen key balance (t ∷ ts) a s =
    by (has_key keylen key t) refl (entries-ascend keylen key (balance_after balance (posted keylen key balance t)) ts a.1 s.1) (entries-ascend keylen (key_in keylen t) (balance_after None (posted keylen (key_in keylen t) None t)) ts s.0 s.1)
  where
    by : (b : Bool) → has_key keylen key t ≡ b → IsStrictlySortedBy (slice_cmp nat_cmp) (keys_of (entries_from keylen key (balance_after balance (posted keylen key balance t)) ts))
        → IsStrictlySortedBy (slice_cmp nat_cmp) (keys_of (entries_from keylen (key_in keylen t) (balance_after None (posted keylen (key_in keylen t) None t)) ts))
        → IsStrictlySortedBy (slice_cmp nat_cmp)
        (keys_of (if b then entries_from keylen key (balance_after balance (posted keylen key balance t)) ts else entry_of key balance ++ entries_from keylen (key_in keylen t) (balance_after None (posted keylen (key_in keylen t) None t)) ts))
    by true is one two = one
    by false is one two =
        let less = less-key key (key_in keylen t) a.0 (turned-bytes (key_in keylen t) key is) in
        entry-first key balance (entries_from keylen (key_in keylen t) (balance_after None (posted keylen (key_in keylen t) None t)) ts)
        (all-then (λ x. is_greater (key_in keylen t) x ≡ false) (λ x. slice_cmp nat_cmp key x ≡ Less) (λ x g. less-then_up key (key_in keylen t) x less g) (keys_of (entries_from keylen (key_in keylen t) (balance_after None (posted keylen (key_in keylen t) None t)) ts))
        (above-entries keylen (key_in keylen t) (key_in keylen t) (balance_after None (posted keylen (key_in keylen t) None t)) ts (not-greater (key_in keylen t)) s.0 s.1)) two

-- The amount of a key: that of the group, or of a later one.
abbrev amount_at : ℕ → List ℕ → Option ℕ → List ℕ → List (List ℕ) → Option ℕ
amount_at keylen key balance q ts = if bytes_eq q key then group_balance keylen q balance (filter (has_key keylen q) ts) else group_balance keylen q None (filter (has_key keylen q) ts)

-- where the group has nothing yet the two are the same
amount-none : (keylen : ℕ) (key q : List ℕ) (ts : List (List ℕ)) → amount_at keylen key None q ts ≡ group_balance keylen q None (filter (has_key keylen q) ts)
amount-none keylen key q ts = by (bytes_eq q key)
  where
    by : (b : Bool) → (if b then group_balance keylen q None (filter (has_key keylen q) ts) else group_balance keylen q None (filter (has_key keylen q) ts)) ≡ group_balance keylen q None (filter (has_key keylen q) ts)
    by true = refl
    by false = refl

has-own : (keylen : ℕ) (key q t : List ℕ) → key_in keylen t ≡ key → q ≡ key → has_key keylen q t ≡ true
has-own keylen key q t own is = ap (λ (k : List ℕ). bytes_eq k q) (own ∙ sym is) ∙ same_bytes q

has-other : (keylen : ℕ) (key q t : List ℕ) → key_in keylen t ≡ key → bytes_eq q key ≡ false → has_key keylen q t ≡ false
has-other keylen key q t own is = ap (λ (k : List ℕ). bytes_eq k q) own ∙ turned-bytes q key is

-- a text of the group's key comes next
amount-step : (keylen : ℕ) (key : List ℕ) (balance : Option ℕ) (q t : List ℕ) (ts : List (List ℕ)) → key_in keylen t ≡ key → amount_at keylen key (balance_after balance (posted keylen key balance t)) q ts ≡ amount_at keylen key balance q (t ∷ ts)
amount-step keylen key balance q t ts own = by (bytes_eq q key) refl
  where
    by : (b : Bool) → bytes_eq q key ≡ b
        → (if b then group_balance keylen q (balance_after balance (posted keylen key balance t)) (filter (has_key keylen q) ts) else group_balance keylen q None (filter (has_key keylen q) ts))
        ≡ (if b then group_balance keylen q balance (cond (has_key keylen q t) (t ∷ filter (has_key keylen q) ts) (filter (has_key keylen q) ts)) else group_balance keylen q None (cond (has_key keylen q t) (t ∷ filter (has_key keylen q) ts) (filter (has_key keylen q) ts)))
    by true is =
        let same : key ≡ q = sym (equal-bytes q key is) in
        let h : has_key keylen q t ≡ true = has-own keylen key q t own (sym same) in
        rw h (ap (λ (k : List ℕ). group_balance keylen q (balance_after balance (posted keylen k balance t)) (filter (has_key keylen q) ts)) same)
    by false is = let h : has_key keylen q t ≡ false = has-other keylen key q t own is in rw h refl

lookup-own : (q key : List ℕ) (balance : Option ℕ) (es : List Entry) → bytes_eq q key ≡ true → lookup (bytes_eq q) es ≡ None → lookup (bytes_eq q) (entry_of key balance ++ es) ≡ balance
lookup-own q key None es is none = none
lookup-own q key (Some amount) es is none = rw is refl

lookup-other : (q key : List ℕ) (balance : Option ℕ) (es : List Entry) → bytes_eq q key ≡ false → lookup (bytes_eq q) (entry_of key balance ++ es) ≡ lookup (bytes_eq q) es
lookup-other q key None es is = refl
lookup-other q key (Some amount) es is = rw is refl

-- no text has a key that is less than theirs
none-below : (keylen : ℕ) (q k : List ℕ) (ts : List (List ℕ)) → slice_cmp nat_cmp q k ≡ Less → Above keylen k ts → filter (has_key keylen q) ts ≡ []
none-below keylen q k ts less above =
    none-above keylen q ts (all-then (λ t. is_greater k (key_in keylen t) ≡ false) (λ t. bytes_eq (key_in keylen t) q ≡ false) (λ t a. turned-bytes q (key_in keylen t) (less-other q (key_in keylen t) (less-then_up q k (key_in keylen t) less a))) ts above)

-- Among the entries each key has its amount.
pub entries-amount : (keylen : ℕ) (key : List ℕ) (balance : Option ℕ) (q : List ℕ) (ts : List (List ℕ)) → Above keylen key ts → IsSorted keylen ts → lookup (bytes_eq q) (entries_from keylen key balance ts) ≡ amount_at keylen key balance q ts
entries-amount keylen key balance q [] a s = by (bytes_eq q key) refl balance
  where
    by : (b : Bool) → bytes_eq q key ≡ b → (balance : Option ℕ) → lookup (bytes_eq q) (entry_of key balance) ≡ (if b then balance else None)
    by true is None = refl
    by false is None = refl
    by true is (Some amount) = rw is refl
    by false is (Some amount) = rw is refl
entries-amount keylen key balance q (t ∷ ts) a s =
    by (has_key keylen key t) refl (entries-amount keylen key (balance_after balance (posted keylen key balance t)) q ts a.1 s.1) (entries-amount keylen (key_in keylen t) (balance_after None (posted keylen (key_in keylen t) None t)) q ts s.0 s.1)
  where
    -- the group is over
    over : (c : Bool) → bytes_eq q key ≡ c → has_key keylen key t ≡ false
        → lookup (bytes_eq q) (entries_from keylen (key_in keylen t) (balance_after None (posted keylen (key_in keylen t) None t)) ts) ≡ group_balance keylen q None (filter (has_key keylen q) (t ∷ ts))
        → lookup (bytes_eq q) (entry_of key balance ++ entries_from keylen (key_in keylen t) (balance_after None (posted keylen (key_in keylen t) None t)) ts)
        ≡ (if c then group_balance keylen q balance (filter (has_key keylen q) (t ∷ ts)) else group_balance keylen q None (filter (has_key keylen q) (t ∷ ts)))
    over true c is two =
        let same : q ≡ key = equal-bytes q key c in
        let less = less-key key (key_in keylen t) a.0 (turned-bytes (key_in keylen t) key is) in
        let gone : filter (has_key keylen q) (t ∷ ts) ≡ [] =
        subst (λ (k : List ℕ). filter (has_key keylen k) (t ∷ ts) ≡ []) (sym same) (none-below keylen key (key_in keylen t) (t ∷ ts) less (not-greater (key_in keylen t), s.0)) in
        lookup-own q key balance (entries_from keylen (key_in keylen t) (balance_after None (posted keylen (key_in keylen t) None t)) ts) c (two ∙ ap (group_balance keylen q None) gone) ∙ ap (group_balance keylen q balance) (sym gone)
    over false c is two = lookup-other q key balance (entries_from keylen (key_in keylen t) (balance_after None (posted keylen (key_in keylen t) None t)) ts) c ∙ two

    by : (b : Bool) → has_key keylen key t ≡ b → lookup (bytes_eq q) (entries_from keylen key (balance_after balance (posted keylen key balance t)) ts) ≡ amount_at keylen key (balance_after balance (posted keylen key balance t)) q ts
        → lookup (bytes_eq q) (entries_from keylen (key_in keylen t) (balance_after None (posted keylen (key_in keylen t) None t)) ts) ≡ amount_at keylen (key_in keylen t) (balance_after None (posted keylen (key_in keylen t) None t)) q ts
        → lookup (bytes_eq q)
        (if b then entries_from keylen key (balance_after balance (posted keylen key balance t)) ts else entry_of key balance ++ entries_from keylen (key_in keylen t) (balance_after None (posted keylen (key_in keylen t) None t)) ts)
        ≡ amount_at keylen key balance q (t ∷ ts)
    by true is one two = one ∙ amount-step keylen key balance q t ts (equal-bytes (key_in keylen t) key is)
    by false is one two = over (bytes_eq q key) refl is (two ∙ amount-step keylen (key_in keylen t) None q t ts refl ∙ amount-none keylen (key_in keylen t) q (t ∷ ts))

-- The refused texts of a key: those of the group, or of a later one.
abbrev refused_at : ℕ → List ℕ → Option ℕ → List ℕ → List (List ℕ) → List (List ℕ)
refused_at keylen key balance q ts = if bytes_eq q key then group_refused keylen q balance (filter (has_key keylen q) ts) else group_refused keylen q None (filter (has_key keylen q) ts)

refused-none : (keylen : ℕ) (key q : List ℕ) (ts : List (List ℕ)) → refused_at keylen key None q ts ≡ group_refused keylen q None (filter (has_key keylen q) ts)
refused-none keylen key q ts = by (bytes_eq q key)
  where
    by : (b : Bool) → (if b then group_refused keylen q None (filter (has_key keylen q) ts) else group_refused keylen q None (filter (has_key keylen q) ts)) ≡ group_refused keylen q None (filter (has_key keylen q) ts)
    by true = refl
    by false = refl

refused-step : (keylen : ℕ) (key : List ℕ) (balance : Option ℕ) (q t : List ℕ) (ts : List (List ℕ)) → key_in keylen t ≡ key
    → filter (has_key keylen q) (refused_by t (posted keylen key balance t)) ++ refused_at keylen key (balance_after balance (posted keylen key balance t)) q ts ≡ refused_at keylen key balance q (t ∷ ts)
refused-step keylen key balance q t ts own = by (bytes_eq q key) refl
  where
    by : (b : Bool) → bytes_eq q key ≡ b
        → filter (has_key keylen q) (refused_by t (posted keylen key balance t))
        ++ (if b then group_refused keylen q (balance_after balance (posted keylen key balance t)) (filter (has_key keylen q) ts) else group_refused keylen q None (filter (has_key keylen q) ts))
        ≡ (if b then group_refused keylen q balance (cond (has_key keylen q t) (t ∷ filter (has_key keylen q) ts) (filter (has_key keylen q) ts)) else group_refused keylen q None (cond (has_key keylen q t) (t ∷ filter (has_key keylen q) ts) (filter (has_key keylen q) ts)))
    by true is =
        let same : key ≡ q = sym (equal-bytes q key is) in
        let h : has_key keylen q t ≡ true = has-own keylen key q t own (sym same) in
        let kept = one-kept keylen q t (posted keylen key balance t) h in
        rw h ((λ j. kept j ++ group_refused keylen q (balance_after balance (posted keylen key balance t)) (filter (has_key keylen q) ts))
        ∙ ap (λ (k : List ℕ). refused_by t (posted keylen k balance t) ++ group_refused keylen q (balance_after balance (posted keylen k balance t)) (filter (has_key keylen q) ts)) same)
    by false is =
        let h : has_key keylen q t ≡ false = has-other keylen key q t own is in
        let left = one-left keylen q t (posted keylen key balance t) h in
        rw h (λ j. left j ++ group_refused keylen q None (filter (has_key keylen q) ts))

-- Among the refused texts those of a key are those that its group refuses.
pub refusals-class : (keylen : ℕ) (key : List ℕ) (balance : Option ℕ) (q : List ℕ) (ts : List (List ℕ)) → Above keylen key ts → IsSorted keylen ts → filter (has_key keylen q) (refusals_from keylen key balance ts) ≡ refused_at keylen key balance q ts
refusals-class keylen key balance q [] a s = by (bytes_eq q key)
  where
    none : List (List ℕ)
    none = []

    by : (b : Bool) → none ≡ (if b then none else none)
    by true = refl
    by false = refl
refusals-class keylen key balance q (t ∷ ts) a s =
    by (has_key keylen key t) refl (refusals-class keylen key (balance_after balance (posted keylen key balance t)) q ts a.1 s.1) (refusals-class keylen (key_in keylen t) (balance_after None (posted keylen (key_in keylen t) None t)) q ts s.0 s.1)
  where
    over : (c : Bool) → bytes_eq q key ≡ c → has_key keylen key t ≡ false
        → group_refused keylen q None (filter (has_key keylen q) (t ∷ ts)) ≡ (if c then group_refused keylen q balance (filter (has_key keylen q) (t ∷ ts)) else group_refused keylen q None (filter (has_key keylen q) (t ∷ ts)))
    over true c is =
        let same : q ≡ key = equal-bytes q key c in
        let less = less-key key (key_in keylen t) a.0 (turned-bytes (key_in keylen t) key is) in
        let gone : filter (has_key keylen q) (t ∷ ts) ≡ [] =
        subst (λ (k : List ℕ). filter (has_key keylen k) (t ∷ ts) ≡ []) (sym same) (none-below keylen key (key_in keylen t) (t ∷ ts) less (not-greater (key_in keylen t), s.0)) in
        ap (group_refused keylen q None) gone ∙ ap (group_refused keylen q balance) (sym gone)
    over false c is = refl

    by : (b : Bool) → has_key keylen key t ≡ b → filter (has_key keylen q) (refusals_from keylen key (balance_after balance (posted keylen key balance t)) ts) ≡ refused_at keylen key (balance_after balance (posted keylen key balance t)) q ts
        → filter (has_key keylen q) (refusals_from keylen (key_in keylen t) (balance_after None (posted keylen (key_in keylen t) None t)) ts) ≡ refused_at keylen (key_in keylen t) (balance_after None (posted keylen (key_in keylen t) None t)) q ts
        → filter (has_key keylen q)
        (if b then refused_by t (posted keylen key balance t) ++ refusals_from keylen key (balance_after balance (posted keylen key balance t)) ts
        else refused_by t (posted keylen (key_in keylen t) None t) ++ refusals_from keylen (key_in keylen t) (balance_after None (posted keylen (key_in keylen t) None t)) ts)
        ≡ refused_at keylen key balance q (t ∷ ts)
    by true is one two =
        filter-append (has_key keylen q) (refused_by t (posted keylen key balance t)) (refusals_from keylen key (balance_after balance (posted keylen key balance t)) ts)
        ∙ ap (λ (us : List (List ℕ)). filter (has_key keylen q) (refused_by t (posted keylen key balance t)) ++ us) one
        ∙ refused-step keylen key balance q t ts (equal-bytes (key_in keylen t) key is)
    by false is one two =
        filter-append (has_key keylen q) (refused_by t (posted keylen (key_in keylen t) None t)) (refusals_from keylen (key_in keylen t) (balance_after None (posted keylen (key_in keylen t) None t)) ts)
        ∙ ap (λ (us : List (List ℕ)). filter (has_key keylen q) (refused_by t (posted keylen (key_in keylen t) None t)) ++ us) two
        ∙ refused-step keylen (key_in keylen t) None q t ts refl
        ∙ refused-none keylen (key_in keylen t) q (t ∷ ts)
        ∙ over (bytes_eq q key) refl is

all-one : (P : List ℕ → Type 0) (t : List ℕ) (p : Posting) (us : List (List ℕ)) → P t → AllByRecursion P us → AllByRecursion P (refused_by t p ++ us)
all-one P t (Applied b) us pt pu = pu
all-one P t Refused us pt pu = (pt, pu)

-- what holds of all texts holds of those that are refused
pub all-refusals : (keylen : ℕ) (P : List ℕ → Type 0) (key : List ℕ) (balance : Option ℕ) (ts : List (List ℕ)) → AllByRecursion P ts → AllByRecursion P (refusals_from keylen key balance ts)
all-refusals keylen P key balance [] all = tt
all-refusals keylen P key balance (t ∷ ts) all = by (has_key keylen key t)
    (all-one P t (posted keylen key balance t) (refusals_from keylen key (balance_after balance (posted keylen key balance t)) ts) all.0 (all-refusals keylen P key (balance_after balance (posted keylen key balance t)) ts all.1))
    (all-one P t (posted keylen (key_in keylen t) None t) (refusals_from keylen (key_in keylen t) (balance_after None (posted keylen (key_in keylen t) None t)) ts) all.0 (all-refusals keylen P (key_in keylen t) (balance_after None (posted keylen (key_in keylen t) None t)) ts all.1))
  where
    by : (b : Bool) → AllByRecursion P (refused_by t (posted keylen key balance t) ++ refusals_from keylen key (balance_after balance (posted keylen key balance t)) ts)
        → AllByRecursion P (refused_by t (posted keylen (key_in keylen t) None t) ++ refusals_from keylen (key_in keylen t) (balance_after None (posted keylen (key_in keylen t) None t)) ts)
        → AllByRecursion P
        (if b then refused_by t (posted keylen key balance t) ++ refusals_from keylen key (balance_after balance (posted keylen key balance t)) ts
        else refused_by t (posted keylen (key_in keylen t) None t) ++ refusals_from keylen (key_in keylen t) (balance_after None (posted keylen (key_in keylen t) None t)) ts)
    by true one two = one
    by false one two = two

sorted-one : (keylen : ℕ) (t : List ℕ) (p : Posting) (us : List (List ℕ)) → Above keylen (key_in keylen t) us → IsSorted keylen us → IsSorted keylen (refused_by t p ++ us)
sorted-one keylen t (Applied b) us a s = s
sorted-one keylen t Refused us a s = (a, s)

-- The refused texts of sorted ones are sorted.
pub sorted-refusals : (keylen : ℕ) (key : List ℕ) (balance : Option ℕ) (ts : List (List ℕ)) → IsSorted keylen ts → IsSorted keylen (refusals_from keylen key balance ts)
sorted-refusals keylen key balance [] s = tt
sorted-refusals keylen key balance (t ∷ ts) s = by (has_key keylen key t)
    (one (posted keylen key balance t) key (balance_after balance (posted keylen key balance t)) (sorted-refusals keylen key (balance_after balance (posted keylen key balance t)) ts s.1))
    (one (posted keylen (key_in keylen t) None t) (key_in keylen t) (balance_after None (posted keylen (key_in keylen t) None t)) (sorted-refusals keylen (key_in keylen t) (balance_after None (posted keylen (key_in keylen t) None t)) ts s.1))
  where
    one : (p : Posting) (k : List ℕ) (b : Option ℕ) → IsSorted keylen (refusals_from keylen k b ts) → IsSorted keylen (refused_by t p ++ refusals_from keylen k b ts)
    one p k b r = sorted-one keylen t p (refusals_from keylen k b ts) (all-refusals keylen (λ u. is_greater (key_in keylen t) (key_in keylen u) ≡ false) k b ts s.0) r

    by : (b : Bool) → IsSorted keylen (refused_by t (posted keylen key balance t) ++ refusals_from keylen key (balance_after balance (posted keylen key balance t)) ts)
        → IsSorted keylen (refused_by t (posted keylen (key_in keylen t) None t) ++ refusals_from keylen (key_in keylen t) (balance_after None (posted keylen (key_in keylen t) None t)) ts)
        → IsSorted keylen
        (if b then refused_by t (posted keylen key balance t) ++ refusals_from keylen key (balance_after balance (posted keylen key balance t)) ts
        else refused_by t (posted keylen (key_in keylen t) None t) ++ refusals_from keylen (key_in keylen t) (balance_after None (posted keylen (key_in keylen t) None t)) ts)
    by true one two = one
    by false one two = two

-- All texts from the first one on

-- The keys of all entries ascend.
pub ascending : (keylen : ℕ) (ts : List (List ℕ)) → IsSorted keylen ts → IsStrictlySortedBy (slice_cmp nat_cmp) (keys_of (entries keylen ts))
unfolding IsStrictlySortedBy
ascending keylen [] s = tt
ascending keylen (t ∷ ts) s = entries-ascend keylen (key_in keylen t) (balance_after None (posted keylen (key_in keylen t) None t)) ts s.0 s.1

-- Each key has the amount of its texts.
pub entries-at : (keylen : ℕ) (q : List ℕ) (ts : List (List ℕ)) → IsSorted keylen ts → lookup (bytes_eq q) (entries keylen ts) ≡ group_balance keylen q None (filter (has_key keylen q) ts)
entries-at keylen q [] s = refl
entries-at keylen q (t ∷ ts) s =
    entries-amount keylen (key_in keylen t) (balance_after None (posted keylen (key_in keylen t) None t)) q ts s.0 s.1 ∙ amount-step keylen (key_in keylen t) None q t ts refl ∙ amount-none keylen (key_in keylen t) q (t ∷ ts)

-- Of each key those texts are refused that its group refuses.
pub refusals-at : (keylen : ℕ) (q : List ℕ) (ts : List (List ℕ)) → IsSorted keylen ts → filter (has_key keylen q) (refusals keylen ts) ≡ group_refused keylen q None (filter (has_key keylen q) ts)
refusals-at keylen q [] s = refl
refusals-at keylen q (t ∷ ts) s =
    filter-append (has_key keylen q) (refused_by t (posted keylen (key_in keylen t) None t)) (refusals_from keylen (key_in keylen t) (balance_after None (posted keylen (key_in keylen t) None t)) ts)
    ∙ ap (λ (us : List (List ℕ)). filter (has_key keylen q) (refused_by t (posted keylen (key_in keylen t) None t)) ++ us) (refusals-class keylen (key_in keylen t) (balance_after None (posted keylen (key_in keylen t) None t)) q ts s.0 s.1)
    ∙ refused-step keylen (key_in keylen t) None q t ts refl
    ∙ refused-none keylen (key_in keylen t) q (t ∷ ts)

-- The refused texts are sorted.
pub refusals-sorted : (keylen : ℕ) (ts : List (List ℕ)) → IsSorted keylen ts → IsSorted keylen (refusals keylen ts)
refusals-sorted keylen [] s = tt
refusals-sorted keylen (t ∷ ts) s =
    sorted-one keylen t (posted keylen (key_in keylen t) None t) (refusals_from keylen (key_in keylen t) (balance_after None (posted keylen (key_in keylen t) None t)) ts)
    (all-refusals keylen (λ u. is_greater (key_in keylen t) (key_in keylen u) ≡ false) (key_in keylen t) (balance_after None (posted keylen (key_in keylen t) None t)) ts s.0)
    (sorted-refusals keylen (key_in keylen t) (balance_after None (posted keylen (key_in keylen t) None t)) ts s.1)
