-- What a worker asked for and made ready, and what it popped and pushed.
use Rattle.std.proofs.Common.{◌≡◌, ℕ, ◌<◌, List, [], ◌∷◌, ◌++◌, All, sym, ap, subst, ◌∙◌, append-nil, append_assoc}
use Rattle.flow_floor.specs.declared.floor.Floor.{Floor}
use Rattle.flow_floor.specs.declared.floor.Worker.{Worker}
use Rattle.flow_floor.specs.Floors.{asked_of, readied_of, woken_of, Readies}
use Rattle.flow_runner.specs.declared.line.Line.{Line}
use Rattle.flow_runner.specs.declared.line.LinePass.{LinePass}
use Rattle.flow_runner.specs.Lines.{line_room, pops_of, pushes_of}
use Rattle.flow_runner.specs.Serving.{Follows, GrowAlike, IsLineFor, KeepsPass, Pushes, PushesBut}

-- Two lists that stay as they were grew alike, by nothing.
pub grow-none : (xs xs' ys ys' : List ℕ) → xs' ≡ xs → ys' ≡ ys → GrowAlike xs xs' ys ys'
grow-none xs xs' ys ys' a b = record { more = []; first = a ∙ sym (append-nil xs); second = b ∙ sym (append-nil ys) }

-- Two that grew alike, and then grew alike again, did so all in all.
pub grow-then : (xs xs' xs'' ys ys' ys'' : List ℕ) → GrowAlike xs xs' ys ys' → GrowAlike xs' xs'' ys' ys'' → GrowAlike xs xs'' ys ys''
grow-then xs xs' xs'' ys ys' ys'' a b = record {
  more = a.more ++ b.more;
  first = b.first ∙ ap (λ (zs : List ℕ). zs ++ b.more) a.first ∙ append_assoc xs a.more b.more;
  second = b.second ∙ ap (λ (zs : List ℕ). zs ++ b.more) a.second ∙ append_assoc ys a.more b.more;
}

-- A pass that was kept, and then kept again, was kept all in all.
pub keeps-then : (line : Line) (p q r : LinePass) → KeepsPass line p q → KeepsPass line q r → KeepsPass line p r
keeps-then line p q r a b = (b.0, b.1 ∙ a.1)

module _ {K : Type 0} where
  -- Those whom a call made ready may stand in the line.
  pub woken-below : (floor : Floor K) (line : Line) (u v : Worker K) → IsLineFor floor line → Readies floor u v → All (λ q. q < line_room line) (woken_of v)
  woken-below floor line u v room r = subst (λ (n : ℕ). All (λ q. q < n) (woken_of v)) (sym room) r.below

  pub pushes-none : (line : Line) (u v : Worker K) (p q : LinePass) → KeepsPass line p q → readied_of v ≡ readied_of u → pushes_of q ≡ pushes_of p → pops_of q ≡ pops_of p → Pushes line u p v q
  pushes-none line u v p q pass same pushed popped = record { pass = pass; popped = popped; readied = grow-none (readied_of u) (readied_of v) (pushes_of p) (pushes_of q) same pushed }

  -- A call, and a push of those whom it made ready.
  pub pushes-woken : (floor : Floor K) (line : Line) (u v : Worker K) (p q : LinePass) → Readies floor u v → KeepsPass line p q → pushes_of q ≡ pushes_of p ++ woken_of v → pops_of q ≡ pops_of p → Pushes line u p v q
  pushes-woken floor line u v p q r pass pushed popped = record { pass = pass; popped = popped; readied = record { more = woken_of v; first = r.listed; second = pushed } }

  pub pushes-then : (line : Line) (u v w : Worker K) (p q r : LinePass) → Pushes line u p v q → Pushes line v q w r → Pushes line u p w r
  pushes-then line u v w p q r a b = record {
    pass = keeps-then line p q r a.pass b.pass;
    popped = b.popped ∙ a.popped;
    readied = grow-then (readied_of u) (readied_of v) (readied_of w) (pushes_of p) (pushes_of q) (pushes_of r) a.readied b.readied;
  }

  -- Nothing was made ready, pushed or popped.
  pub but-none : (line : Line) (u v : Worker K) (p q : LinePass) (left : List ℕ) → KeepsPass line p q → readied_of v ≡ readied_of u → pushes_of q ≡ pushes_of p → pops_of q ≡ pops_of p → PushesBut line u p left v q left
  but-none line u v p q left pass same pushed popped = record {
    pass = pass;
    popped = popped;
    more = [];
    readied = same ∙ sym (append-nil (readied_of u));
    pushed = ap (λ (zs : List ℕ). zs ++ left) pushed ∙ sym (append-nil (pushes_of p ++ left));
  }

  -- A call; those whom it made ready were kept or pushed.
  pub but-woken : (floor : Floor K) (line : Line) (u v : Worker K) (p q : LinePass) (left left' : List ℕ) → Readies floor u v → KeepsPass line p q → pushes_of q ++ left' ≡ (pushes_of p ++ left) ++ woken_of v → pops_of q ≡ pops_of p → PushesBut line u p left v q left'
  but-woken floor line u v p q left left' r pass pushed popped = record { pass = pass; popped = popped; more = woken_of v; readied = r.listed; pushed = pushed }

  -- All those who were left were pushed.
  pub but-pushed : (line : Line) (u v : Worker K) (p q r : LinePass) (left left' left'' : List ℕ) → PushesBut line u p left v q left' → KeepsPass line q r → pushes_of r ≡ pushes_of q ++ left' → pops_of r ≡ pops_of q → left'' ≡ [] → PushesBut line u p left v r left''
  but-pushed line u v p q r left left' left'' a pass pushed popped none = record {
    pass = keeps-then line p q r a.pass pass;
    popped = popped ∙ a.popped;
    more = a.more;
    readied = a.readied;
    pushed = ap (λ (zs : List ℕ). pushes_of r ++ zs) none ∙ append-nil (pushes_of r) ∙ pushed ∙ a.pushed;
  }

  pub but-then : (line : Line) (u v w : Worker K) (p q r : LinePass) (left left' left'' : List ℕ) → PushesBut line u p left v q left' → PushesBut line v q left' w r left'' → PushesBut line u p left w r left''
  but-then line u v w p q r left left' left'' a b = record {
    pass = keeps-then line p q r a.pass b.pass;
    popped = b.popped ∙ a.popped;
    more = a.more ++ b.more;
    readied = b.readied ∙ ap (λ (zs : List ℕ). zs ++ b.more) a.readied ∙ append_assoc (readied_of u) a.more b.more;
    pushed = b.pushed ∙ ap (λ (zs : List ℕ). zs ++ b.more) a.pushed ∙ append_assoc (pushes_of p ++ left) a.more b.more;
  }

  -- Nobody is left, and nobody was.
  pub pushes-but : (line : Line) (u v : Worker K) (p q : LinePass) (left left' : List ℕ) → PushesBut line u p left v q left' → left ≡ [] → left' ≡ [] → Pushes line u p v q
  pushes-but line u v p q left left' a none none' = record {
    pass = a.pass;
    popped = a.popped;
    readied = record {
      more = a.more;
      first = a.readied;
      second = sym (append-nil (pushes_of q)) ∙ ap (λ (zs : List ℕ). pushes_of q ++ zs) (sym none') ∙ a.pushed ∙ ap (λ (zs : List ℕ). (pushes_of p ++ zs) ++ a.more) none ∙ ap (λ (zs : List ℕ). zs ++ a.more) (append-nil (pushes_of p));
    };
  }

  pub follows-none : (line : Line) (u v : Worker K) (p q : LinePass) → KeepsPass line p q → asked_of v ≡ asked_of u → readied_of v ≡ readied_of u → pushes_of q ≡ pushes_of p → pops_of q ≡ pops_of p → Follows line u p v q
  follows-none line u v p q pass asked readied pushed popped = record {
    pass = pass;
    asked = grow-none (asked_of u) (asked_of v) (pops_of p) (pops_of q) asked popped;
    readied = grow-none (readied_of u) (readied_of v) (pushes_of p) (pushes_of q) readied pushed;
  }

  -- A process was popped and then asked for.
  pub follows-one : (line : Line) (u v : Worker K) (p q r : LinePass) (process : ℕ) → KeepsPass line p q → pushes_of q ≡ pushes_of p → pops_of q ≡ pops_of p ++ process ∷ [] → asked_of v ≡ asked_of u ++ process ∷ [] → Pushes line u q v r → Follows line u p v r
  follows-one line u v p q r process pass pushed popped asked b = record {
    pass = keeps-then line p q r pass b.pass;
    asked = record { more = process ∷ []; first = asked; second = b.popped ∙ popped };
    readied = record { more = b.readied.more; first = b.readied.first; second = b.readied.second ∙ ap (λ (zs : List ℕ). zs ++ b.readied.more) pushed };
  }

  pub follows-then : (line : Line) (u v w : Worker K) (p q r : LinePass) → Follows line u p v q → Follows line v q w r → Follows line u p w r
  follows-then line u v w p q r a b = record {
    pass = keeps-then line p q r a.pass b.pass;
    asked = grow-then (asked_of u) (asked_of v) (asked_of w) (pops_of p) (pops_of q) (pops_of r) a.asked b.asked;
    readied = grow-then (readied_of u) (readied_of v) (readied_of w) (pushes_of p) (pushes_of q) (pushes_of r) a.readied b.readied;
  }
