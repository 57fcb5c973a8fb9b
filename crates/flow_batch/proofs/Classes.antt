-- A book is settled key by key: by the texts that have the key, in their order.
use Rattle.std.proofs.Common.{◌≡◌, ℕ, Bool, true, false, List, [], ◌∷◌, ◌++◌, filter, Option, refl, sym, ap, ◌∙◌, subst, append_assoc, append-nil, cond}
use Rattle.std.specs.Str.{bytes_eq}
use Rattle.std.proofs.lemmas.List.Elements.{filter-append}
use Rattle.flow_batch.specs.Records.{key_in, posted, balance_after, refused_by}
use Rattle.flow_batch.specs.declared.records.Posting.{Posting}
use Rattle.flow_batch.specs.declared.records.Posting.TheVariants.{Applied, Refused}
use Rattle.flow_batch.specs.Book.{Book, with_posting, entered, entered_all}
use Rattle.flow_batch.specs.Ledger.{has_key}
use Rattle.flow_batch.proofs.Keys.{same_bytes, equal-bytes}

-- The balance of a key after texts that all have it.
abbrev pub group_balance : ℕ → List ℕ → Option ℕ → List (List ℕ) → Option ℕ
group_balance keylen key balance [] = balance
group_balance keylen key balance (t ∷ ts) = group_balance keylen key (balance_after balance (posted keylen key balance t)) ts

-- Those of the texts that are refused.
abbrev pub group_refused : ℕ → List ℕ → Option ℕ → List (List ℕ) → List (List ℕ)
group_refused keylen key balance [] = []
group_refused keylen key balance (t ∷ ts) = refused_by t (posted keylen key balance t) ++ group_refused keylen key (balance_after balance (posted keylen key balance t)) ts

amount-own : (b : Book) (key text : List ℕ) (p : Posting) → (with_posting b key text p).amounts key ≡ balance_after (b.amounts key) p
amount-own b key text (Applied balance) = let s = same_bytes key in rw s refl
amount-own b key text Refused = refl

amount-other : (b : Book) (key text q : List ℕ) (p : Posting) → bytes_eq key q ≡ false → (with_posting b key text p).amounts q ≡ b.amounts q
amount-other b key text q (Applied balance) o = rw o refl
amount-other b key text q Refused o = refl

refused-own : (b : Book) (key text : List ℕ) (p : Posting) → (with_posting b key text p).refused ≡ b.refused ++ refused_by text p
refused-own b key text (Applied balance) = sym (append-nil b.refused)
refused-own b key text Refused = refl

-- The amount of a key.
pub amount-of : (keylen : ℕ) (q : List ℕ) (ts : List (List ℕ)) (b : Book) → (entered_all keylen b ts).amounts q ≡ group_balance keylen q (b.amounts q) (filter (has_key keylen q) ts)
amount-of keylen q [] b = refl
amount-of keylen q (t ∷ ts) b = by (has_key keylen q t) refl (amount-of keylen q ts (entered keylen b t))
  where
    k : List ℕ
    k = key_in keylen t

    by : (v : Bool) → has_key keylen q t ≡ v → (entered_all keylen (entered keylen b t) ts).amounts q ≡ group_balance keylen q ((entered keylen b t).amounts q) (filter (has_key keylen q) ts)
        → (entered_all keylen (entered keylen b t) ts).amounts q ≡ group_balance keylen q (b.amounts q) (cond v (t ∷ filter (has_key keylen q) ts) (filter (has_key keylen q) ts))
    by true is rest =
        let same : k ≡ q = equal-bytes k q is in
        let own : (entered keylen b t).amounts q ≡ balance_after (b.amounts q) (posted keylen q (b.amounts q) t) =
        subst (λ (x : List ℕ). (with_posting b x t (posted keylen x (b.amounts x) t)).amounts q ≡ balance_after (b.amounts q) (posted keylen q (b.amounts q) t)) (sym same) (amount-own b q t (posted keylen q (b.amounts q) t)) in
        rest ∙ ap (λ (x : Option ℕ). group_balance keylen q x (filter (has_key keylen q) ts)) own
    by false is rest = rest ∙ ap (λ (x : Option ℕ). group_balance keylen q x (filter (has_key keylen q) ts)) (amount-other b k t q (posted keylen k (b.amounts k) t) is)

-- what a key refuses has the key
pub one-kept : (keylen : ℕ) (q t : List ℕ) (p : Posting) → has_key keylen q t ≡ true → filter (has_key keylen q) (refused_by t p) ≡ refused_by t p
one-kept keylen q t (Applied balance) is = refl
one-kept keylen q t Refused is = rw is refl

-- what another key refuses doesn't
pub one-left : (keylen : ℕ) (q t : List ℕ) (p : Posting) → has_key keylen q t ≡ false → filter (has_key keylen q) (refused_by t p) ≡ []
one-left keylen q t (Applied balance) is = refl
one-left keylen q t Refused is = rw is refl

-- The refused texts of a key.
pub refused-of : (keylen : ℕ) (q : List ℕ) (ts : List (List ℕ)) (b : Book)
    → filter (has_key keylen q) (entered_all keylen b ts).refused ≡ filter (has_key keylen q) b.refused ++ group_refused keylen q (b.amounts q) (filter (has_key keylen q) ts)
refused-of keylen q [] b = sym (append-nil (filter (has_key keylen q) b.refused))
refused-of keylen q (t ∷ ts) b = by (has_key keylen q t) refl (refused-of keylen q ts (entered keylen b t))
  where
    k : List ℕ
    k = key_in keylen t

    by : (v : Bool) → has_key keylen q t ≡ v → filter (has_key keylen q) (entered_all keylen (entered keylen b t) ts).refused ≡ filter (has_key keylen q) (entered keylen b t).refused ++ group_refused keylen q ((entered keylen b t).amounts q) (filter (has_key keylen q) ts)
        → filter (has_key keylen q) (entered_all keylen (entered keylen b t) ts).refused ≡ filter (has_key keylen q) b.refused ++ group_refused keylen q (b.amounts q) (cond v (t ∷ filter (has_key keylen q) ts) (filter (has_key keylen q) ts))
    by true is rest =
        let same : k ≡ q = equal-bytes k q is in
        let p = posted keylen q (b.amounts q) t in
        let own : (entered keylen b t).amounts q ≡ balance_after (b.amounts q) p =
        subst (λ (x : List ℕ). (with_posting b x t (posted keylen x (b.amounts x) t)).amounts q ≡ balance_after (b.amounts q) p) (sym same) (amount-own b q t p) in
        let here : filter (has_key keylen q) (entered keylen b t).refused ≡ filter (has_key keylen q) b.refused ++ refused_by t p =
        subst (λ (x : List ℕ). filter (has_key keylen q) (with_posting b x t (posted keylen x (b.amounts x) t)).refused ≡ filter (has_key keylen q) b.refused ++ refused_by t p) (sym same)
        (ap (λ (xs : List (List ℕ)). filter (has_key keylen q) xs) (refused-own b q t p) ∙ filter-append (has_key keylen q) b.refused (refused_by t p) ∙ ap (λ (xs : List (List ℕ)). filter (has_key keylen q) b.refused ++ xs) (one-kept keylen q t p is)) in
        rest ∙ (λ j. here j ++ group_refused keylen q (own j) (filter (has_key keylen q) ts)) ∙ append_assoc (filter (has_key keylen q) b.refused) (refused_by t p) (group_refused keylen q (balance_after (b.amounts q) p) (filter (has_key keylen q) ts))
    by false is rest =
        let p = posted keylen k (b.amounts k) t in
        let here : filter (has_key keylen q) (entered keylen b t).refused ≡ filter (has_key keylen q) b.refused =
        ap (λ (xs : List (List ℕ)). filter (has_key keylen q) xs) (refused-own b k t p) ∙ filter-append (has_key keylen q) b.refused (refused_by t p) ∙ ap (λ (xs : List (List ℕ)). filter (has_key keylen q) b.refused ++ xs) (one-left keylen q t p is)
        ∙ append-nil (filter (has_key keylen q) b.refused) in
        rest ∙ (λ j. here j ++ group_refused keylen q (amount-other b k t q p is j) (filter (has_key keylen q) ts))
