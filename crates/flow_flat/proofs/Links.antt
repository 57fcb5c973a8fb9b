-- The connections of a list of connect statements, and what one more makes of them.
use Rattle.std.proofs.Common.{◌≡◌, ◌≢◌, ℕ, zero, suc, Bool, true, false, List, [], ◌∷◌, ◌++◌, map, Option, Some, None, refl, ap, sym, ◌∙◌, slice_get, arith}
use Rattle.std.specs.Prelude.{◌==◌, ◌||◌, not, if◌then◌else◌}
use Rattle.std.specs.List.{filter, list_any}
use Rattle.std.proofs.lemmas.Bool.{false≢true}
use Rattle.std.proofs.lemmas.List.{map-append, append-nil}
use Rattle.std.proofs.lemmas.List.Elements.{filter-append}
use Rattle.flow_net.specs.declared.draft.End.{End}
use Rattle.flow_net.specs.declared.draft.Link.{Link}
use Rattle.flow_net.specs.Drafts.{updated}
use Rattle.flow_net.specs.Calls.{first_given, with_sender, joined_links}
use Rattle.flow_net.proofs.Ends.{and_true, eqb_true}
use Rattle.flow_net.proofs.Sides.{eqb_refl}
use Rattle.flow_net.proofs.Wiring.{same_end}
use Rattle.flow_flat.specs.Names.{Join}
use Rattle.flow_flat.specs.Plans.{same_element, firsts, joins_into, receivers, capacity_given}

-- Elements that the program finds equal are equal.
pub same_element_is : (a b : End) → same_element a b ≡ true → a ≡ b
same_element_is a b is =
    let both = and_true (a.port == b.port) (a.element == b.element) is in
    same_end a b (eqb_true a.port b.port both.0) (eqb_true a.element b.element both.1)

-- An element equals itself, as the program compares.
pub same_element_refl : (a : End) → same_element a a ≡ true
same_element_refl a = rw (eqb_refl a.port, eqb_refl a.element) refl

pub same_element_not : (a b : End) → a ≢ b → same_element a b ≡ false
same_element_not a b ne = by (same_element a b) refl where
  by : (test : Bool) → same_element a b ≡ test → test ≡ false
  by false is = refl
  by true is = absurd (ne (same_element_is a b is))

pub same_element_sym : (a b : End) → same_element a b ≡ same_element b a
same_element_sym a b = by (same_element a b) refl (same_element b a) refl where
  by : (s : Bool) → same_element a b ≡ s → (t : Bool) → same_element b a ≡ t → s ≡ t
  by true p true q = refl
  by false p false q = refl
  by true p false q = absurd (false≢true (sym q ∙ ap (λ (x : End). same_element x a) (sym (same_element_is a b p)) ∙ same_element_refl a))
  by false p true q = absurd (false≢true (sym p ∙ ap (λ (x : End). same_element x b) (sym (same_element_is b a q)) ∙ same_element_refl b))

-- One of the list is this element.
abbrev pub has : List End → End → Bool
has es x = list_any (λ (e : End). same_element e x) es

firsts_cons : (e : End) (es : List End) (x : End) → firsts (es ++ x ∷ []) ≡ (if has es x then firsts es else firsts es ++ x ∷ []) → firsts ((e ∷ es) ++ x ∷ []) ≡ (if has (e ∷ es) x then firsts (e ∷ es) else firsts (e ∷ es) ++ x ∷ [])
firsts_cons e es x rest = by (same_element e x) refl (has es x) refl where
  keep : End → Bool
  keep = λ (y : End). not (same_element e y)

  tail : (h : Bool) → has es x ≡ h → filter keep (firsts (es ++ x ∷ [])) ≡ filter keep (if h then firsts es else firsts es ++ x ∷ [])
  tail h is = ap (filter keep) (rest ∙ ap (λ (b : Bool). if b then firsts es else firsts es ++ x ∷ []) is)

  pushed : (s : Bool) → same_element e x ≡ s → filter keep (firsts es ++ x ∷ []) ≡ filter keep (firsts es) ++ (if not s then x ∷ [] else [])
  pushed s is = filter-append keep (firsts es) (x ∷ []) ∙ ap (λ (b : Bool). filter keep (firsts es) ++ (if not b then x ∷ [] else [])) is

  ends : (s : Bool) → same_element e x ≡ s → (h : Bool) → has es x ≡ h → e ∷ filter keep (firsts (es ++ x ∷ [])) ≡ (if (s || h) then e ∷ filter keep (firsts es) else (e ∷ filter keep (firsts es)) ++ x ∷ [])
  ends true s true h = ap (λ (t : List End). e ∷ t) (tail true h)
  ends false s true h = ap (λ (t : List End). e ∷ t) (tail true h)
  ends true s false h = ap (λ (t : List End). e ∷ t) (tail false h ∙ pushed true s ∙ append-nil (filter keep (firsts es)))
  ends false s false h = ap (λ (t : List End). e ∷ t) (tail false h ∙ pushed false s)

  by : (s : Bool) → same_element e x ≡ s → (h : Bool) → has es x ≡ h → firsts ((e ∷ es) ++ x ∷ []) ≡ (if has (e ∷ es) x then firsts (e ∷ es) else firsts (e ∷ es) ++ x ∷ [])
  by s is h there = ends s is h there ∙ ap (λ (b : Bool). if b then firsts (e ∷ es) else firsts (e ∷ es) ++ x ∷ []) (sym (ap (λ (b : Bool). b || has es x) is ∙ ap (λ (b : Bool). s || b) there))

-- A push of one that is new, and of one that isn't.
pub firsts_push : (es : List End) (x : End) → firsts (es ++ x ∷ []) ≡ (if has es x then firsts es else firsts es ++ x ∷ [])
firsts_push [] x = refl
firsts_push (e ∷ es) x = firsts_cons e es x (firsts_push es x)

-- An element of the list stands once in the list without the later ones.
pub filter_keeps : {X : Type 0} (p : X → Bool) (xs : List X) (k : ℕ) (x : X) → p x ≡ true → slice_get xs k ≡ Some x → (j : ℕ) × (slice_get (filter p xs) j ≡ Some x)
filter_keeps p [] k x passes is = absurd (cc)
filter_keeps {X} p (y ∷ ys) zero x passes is =
    let same : y ≡ x = cc in
    (0, ap (λ (b : Bool). slice_get (if b then y ∷ filter p ys else filter p ys) 0) (ap p same ∙ passes) ∙ is)
filter_keeps {X} p (y ∷ ys) (suc k) x passes is = by (p y) (filter_keeps p ys k x passes is) where
  by : (b : Bool) → ((j : ℕ) × (slice_get (filter p ys) j ≡ Some x)) → (j : ℕ) × (slice_get (if b then y ∷ filter p ys else filter p ys) j ≡ Some x)
  by true rest = (suc rest.0, rest.1)
  by false rest = rest

-- A member that passed a filter was there, and passes its test.
pub filter_comes : {X : Type 0} (p : X → Bool) (xs : List X) (k : ℕ) (x : X) → slice_get (filter p xs) k ≡ Some x → (j : ℕ) × (slice_get xs j ≡ Some x) × (p x ≡ true)
filter_comes p [] k x is = absurd (cc)
filter_comes {X} p (y ∷ ys) k x is = by (p y) refl k is (λ i there. filter_comes p ys i x there) where
  by : (b : Bool) → p y ≡ b → (k : ℕ) → slice_get (if b then y ∷ filter p ys else filter p ys) k ≡ Some x → ((i : ℕ) → slice_get (filter p ys) i ≡ Some x → (j : ℕ) × (slice_get ys j ≡ Some x) × (p x ≡ true)) → (j : ℕ) × (slice_get (y ∷ ys) j ≡ Some x) × (p x ≡ true)
  by true test zero is more = let same : y ≡ x = cc in (0, is, ap p (sym same) ∙ test)
  by true test (suc k) is more = let found = more k is in (suc found.0, found.1, found.2)
  by false test k is more = let found = more k is in (suc found.0, found.1, found.2)

-- An element of a list is among its first mentions.
pub firsts_have : (es : List End) (x : End) → has es x ≡ true → (c : ℕ) × (slice_get (firsts es) c ≡ Some x)
firsts_have [] x is = absurd (false≢true is)
firsts_have (e ∷ es) x is = by (same_element e x) refl (λ there. firsts_have es x there) is where
  by : (s : Bool) → same_element e x ≡ s → (has es x ≡ true → (c : ℕ) × (slice_get (firsts es) c ≡ Some x)) → (s || has es x) ≡ true → (c : ℕ) × (slice_get (firsts (e ∷ es)) c ≡ Some x)
  by true same more there = (0, ap Some (same_element_is e x same))
  by false same more there =
      let found = more there in
      let kept = filter_keeps (λ (y : End). not (same_element e y)) (firsts es) found.0 x (ap not same) found.1 in
      (suc kept.0, kept.1)

-- A first mention is an element of the list.
pub firsts_come : (es : List End) (x : End) (c : ℕ) → slice_get (firsts es) c ≡ Some x → has es x ≡ true
firsts_come [] x c is = absurd (cc)
firsts_come (e ∷ es) x zero is =
    let same : e ≡ x = cc in
    ap (λ (b : Bool). b || has es x) (ap (λ (y : End). same_element y x) same ∙ same_element_refl x)
firsts_come (e ∷ es) x (suc c) is =
    let found = filter_comes (λ (y : End). not (same_element e y)) (firsts es) c x is in
    by (same_element e x) (firsts_come es x found.0 found.1)
  where
    by : (s : Bool) → has es x ≡ true → (s || has es x) ≡ true
    by true there = refl
    by false there = there

-- The connection into an input.
abbrev pub link_to : List Join → End → Link
link_to joins into = record { into = into; capacity = capacity_given (joins_into joins into); senders = map (λ (j : Join). j.out) (joins_into joins into) }

-- The connections of a list of connect statements.
abbrev pub links_of : List Join → List Link
links_of joins = map (link_to joins) (receivers joins)

pub capacity_push : (js : List Join) (j : Join) → capacity_given (js ++ j ∷ []) ≡ first_given (capacity_given js) j.capacity
capacity_push [] j = by j.capacity where
  by : (c : Option ℕ) → first_given c None ≡ first_given None c
  by None = refl
  by (Some n) = refl
capacity_push (i ∷ js) j = ap (first_given i.capacity) (capacity_push js j) ∙ by i.capacity where
  by : (c : Option ℕ) → first_given c (first_given (capacity_given js) j.capacity) ≡ first_given (first_given c (capacity_given js)) j.capacity
  by None = refl
  by (Some n) = refl

into_push : (js : List Join) (j : Join) (x : End) → joins_into (js ++ j ∷ []) x ≡ joins_into js x ++ (if same_element j.into x then j ∷ [] else [])
into_push js j x = filter-append (λ (i : Join). same_element i.into x) js (j ∷ [])

-- One more connect statement leaves the connections into other inputs as they were.
pub link_other : (js : List Join) (j : Join) (x : End) → same_element j.into x ≡ false → link_to (js ++ j ∷ []) x ≡ link_to js x
link_other js j x other =
    let same : joins_into (js ++ j ∷ []) x ≡ joins_into js x = into_push js j x ∙ ap (λ (b : Bool). joins_into js x ++ (if b then j ∷ [] else [])) other ∙ append-nil (joins_into js x) in
    ap (λ (l : List Join). let link : Link = record { into = x; capacity = capacity_given l; senders = map (λ (i : Join). i.out) l } in link) same

-- It is one more sender of the connection into its own input.
pub link_more : (js : List Join) (j : Join) → link_to (js ++ j ∷ []) j.into ≡ with_sender j.out j.capacity (link_to js j.into)
link_more js j =
    let more : joins_into (js ++ j ∷ []) j.into ≡ joins_into js j.into ++ j ∷ [] = into_push js j j.into ∙ ap (λ (b : Bool). joins_into js j.into ++ (if b then j ∷ [] else [])) (same_element_refl j.into) in
    ap (λ (l : List Join). let link : Link = record { into = j.into; capacity = capacity_given l; senders = map (λ (i : Join). i.out) l } in link) more
    ∙ ap (λ (c : Option ℕ). let link : Link = record { into = j.into; capacity = c; senders = map (λ (i : Join). i.out) (joins_into js j.into ++ j ∷ []) } in link) (capacity_push (joins_into js j.into) j)
    ∙ ap (λ (l : List End). let link : Link = record { into = j.into; capacity = first_given (capacity_given (joins_into js j.into)) j.capacity; senders = l } in link) (map-append (λ (i : Join). i.out) (joins_into js j.into) (j ∷ []))

-- Two functions that agree on all members of a list map it to the same list.
pub map_same : {X Y : Type 0} (f g : X → Y) (xs : List X) → ((k : ℕ) (x : X) → slice_get xs k ≡ Some x → f x ≡ g x) → map f xs ≡ map g xs
map_same f g [] each = refl
map_same f g (x ∷ xs) each = ap (λ y. y ∷ map f xs) (each 0 x refl) ∙ ap (λ ys. g x ∷ ys) (map_same f g xs (λ k y is. each (suc k) y is))

map_updated : {X Y : Type 0} (f g : X → Y) (h : Y → Y) (xs : List X) (c : ℕ) (x : X) → slice_get xs c ≡ Some x → f x ≡ h (g x) → ((k : ℕ) (y : X) → slice_get xs k ≡ Some y → k ≢ c → f y ≡ g y) → map f xs ≡ updated h (map g xs) c
map_updated f g h [] c x is at others = absurd (cc)
map_updated f g h (y ∷ xs) zero x is at others =
    let same : y ≡ x = cc in
    ap (λ z. z ∷ map f xs) (ap f same ∙ at ∙ ap (λ z. h (g z)) (sym same)) ∙ ap (λ zs. h (g y) ∷ zs) (map_same f g xs (λ k z there. others (suc k) z there (λ e. absurd (omega arith))))
map_updated f g h (y ∷ xs) (suc c) x is at others =
    ap (λ z. z ∷ map f xs) (others 0 y refl (λ e. absurd (omega arith))) ∙ ap (λ zs. g y ∷ zs) (map_updated f g h xs c x is at (λ k z there ne. others (suc k) z there (λ e. ne (omega arith))))

-- The inputs of connect statements.
abbrev pub intos : List Join → List End
intos joins = map (λ (j : Join). j.into) joins

pub receivers_push : (js : List Join) (j : Join) → receivers (js ++ j ∷ []) ≡ (if has (intos js) j.into then receivers js else receivers js ++ j.into ∷ [])
receivers_push js j = ap firsts (map-append (λ (i : Join). i.into) js (j ∷ [])) ∙ firsts_push (intos js) j.into

-- An element to which no connection leads has no joins.
pub not_among : (js : List Join) (x : End) → has (intos js) x ≡ false → joins_into js x ≡ []
not_among [] x none = refl
not_among (j ∷ js) x none = by (same_element j.into x) refl none (λ rest. not_among js x rest) where
  by : (s : Bool) → same_element j.into x ≡ s → (s || has (intos js) x) ≡ false → (has (intos js) x ≡ false → joins_into js x ≡ []) → joins_into (j ∷ js) x ≡ []
  by true same none more = absurd (false≢true (sym none))
  by false same none more = ap (λ (b : Bool). if b then j ∷ joins_into js x else joins_into js x) same ∙ more none

-- A connect statement into an input that receives from no connection opens one.
pub links_opened : (js : List Join) (j : Join) → has (intos js) j.into ≡ false → links_of (js ++ j ∷ []) ≡ joined_links (links_of js) j.out j.into j.capacity None
links_opened js j none =
    let more : receivers (js ++ j ∷ []) ≡ receivers js ++ j.into ∷ [] = receivers_push js j ∙ ap (λ (b : Bool). if b then receivers js else receivers js ++ j.into ∷ []) none in
    ap (map (link_to (js ++ j ∷ []))) more ∙ map-append (link_to (js ++ j ∷ [])) (receivers js) (j.into ∷ [])
    ∙ ap (λ (l : List Link). l ++ link_to (js ++ j ∷ []) j.into ∷ []) (map_same (link_to (js ++ j ∷ [])) (link_to js) (receivers js) others)
    ∙ ap (λ (l : Link). links_of js ++ l ∷ []) (link_more js j ∙ ap (λ (l : List Join). with_sender j.out j.capacity (let link : Link = record { into = j.into; capacity = capacity_given l; senders = map (λ (i : Join). i.out) l } in link)) (not_among js j.into none))
  where
    others : (k : ℕ) (x : End) → slice_get (receivers js) k ≡ Some x → link_to (js ++ j ∷ []) x ≡ link_to js x
    others k x is = link_other js j x (same_element_not j.into x (λ same. false≢true (sym none ∙ ap (has (intos js)) same ∙ firsts_come (intos js) x k is)))

-- Into one that does, it is one more sender of that connection.
pub links_joined : (js : List Join) (j : Join) (c : ℕ) → slice_get (receivers js) c ≡ Some j.into → ((d : ℕ) → slice_get (receivers js) d ≡ Some j.into → d ≡ c)
    → links_of (js ++ j ∷ []) ≡ joined_links (links_of js) j.out j.into j.capacity (Some c)
links_joined js j c is once =
    let same : receivers (js ++ j ∷ []) ≡ receivers js = receivers_push js j ∙ ap (λ (b : Bool). if b then receivers js else receivers js ++ j.into ∷ []) (firsts_come (intos js) j.into c is) in
    ap (map (link_to (js ++ j ∷ []))) same
    ∙ map_updated (link_to (js ++ j ∷ [])) (link_to js) (with_sender j.out j.capacity) (receivers js) c j.into is (link_more js j) others
  where
    others : (k : ℕ) (x : End) → slice_get (receivers js) k ≡ Some x → k ≢ c → link_to (js ++ j ∷ []) x ≡ link_to js x
    others k x there ne = link_other js j x (same_element_not j.into x (λ same. ne (once k (there ∙ ap Some (sym same)))))
