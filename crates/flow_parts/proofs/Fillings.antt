-- A filling that has begun, with words in hand.
use Rattle.std.proofs.Common.{◌≡◌, ℕ, ◌+◌, ◌<◌, true, List, [], ◌∷◌, ◌++◌, length, refl, sym, ap, ◌∙◌, append_assoc, append-nil, arith}
use Rattle.std.specs.List.{flat_map}
use Rattle.flow_packet.specs.Tree.{Tree, text_of}
use Rattle.flow_parts.specs.Text.{is_filled}
use Rattle.flow_component.specs.Runs.{text_packet}
use Rattle.flow_parts.specs.Filling.{Each, IsNormal, IsBracket, Line, line_text, words_in, IsLine, BreaksLate, IsFilled, line_packets, Filling, last_part, part_and_bracket}

-- The first line begins with these words, if there are any.
abbrev pub BeginsWith : Line → List Line → Type 0
BeginsWith [] lines = Unit {0}
BeginsWith (w ∷ ws) lines = (more : Line) × (rest : List Line) × (lines ≡ ((w ∷ ws) ++ more) ∷ rest)

-- These words and then those of the part are filled into the lines.
pub record Opens (size : ℕ) (hand : Line) (part : List Tree) (lines : List Line) : Type 0 where
  pub normal : Each IsNormal part
  pub filled : IsFilled size (hand ++ words_in part) lines
  pub begins : BeginsWith hand lines

-- y is a filling of these words and then x.
pub data Begun (size : ℕ) (hand : Line) (x y : List Tree) : Type 0 where
  ends : (lines : List Line) → Opens size hand x lines → y ≡ line_packets lines → Begun size hand x y
  goes_on : (part : List Tree) (lines : List Line) (bracket : Tree) (x' y' : List Tree) → Opens size hand part lines → IsBracket bracket → Filling size x' y'
      → x ≡ part ++ bracket ∷ x' → y ≡ line_packets lines ++ bracket ∷ y' → Begun size hand x y

-- What is made of a stream with an empty line in hand is a filling of it.
pub Begun-filling : (size : ℕ) (x y : List Tree) → Begun size [] x y → Filling size x y
Begun-filling size x y (ends lines o e) = rw e (last_part x lines o.normal o.filled)
Begun-filling size x y (goes_on part lines bracket x' y' o b f e g) = rw (e, g) (part_and_bracket part lines bracket x' y' o.normal o.filled b f)

-- a packet with an empty text adds nothing
words-skip : (t : Tree) (part : List Tree) → text_of t ≡ [] → words_in (t ∷ part) ≡ words_in part
words-skip t part e = rw e refl

words-take : (t : Tree) (part : List Tree) (b : ℕ) (bs : List ℕ) → text_of t ≡ b ∷ bs → words_in (t ∷ part) ≡ (b ∷ bs) ∷ words_in part
words-take t part b bs e = rw e refl

opens-skip : (size : ℕ) (hand : Line) (t : Tree) (part : List Tree) (lines : List Line) → IsNormal t → text_of t ≡ [] → Opens size hand part lines → Opens size hand (t ∷ part) lines
opens-skip size hand t part lines n e o = record { normal = (n, o.normal); filled = rw (words-skip t part e) o.filled; begins = o.begins }

begins-shorter : (hand : Line) (w : List ℕ) (lines : List Line) → BeginsWith (hand ++ w ∷ []) lines → BeginsWith hand lines
begins-shorter [] w lines b = tt
begins-shorter (v ∷ vs) w lines b = (w ∷ b.0, b.1, b.2 ∙ ap (λ (us : Line). (v ∷ us) ∷ b.1) (append_assoc vs (w ∷ []) b.0))

opens-take : (size : ℕ) (hand : Line) (t : Tree) (part : List Tree) (lines : List Line) (b : ℕ) (bs : List ℕ) → IsNormal t → text_of t ≡ b ∷ bs
    → Opens size (hand ++ (b ∷ bs) ∷ []) part lines → Opens size hand (t ∷ part) lines
opens-take size hand t part lines b bs n e o = record {
  normal = (n, o.normal);
  filled = rw (words-take t part b bs e) (rw append_assoc at o.filled);
  begins = begins-shorter hand (b ∷ bs) lines o.begins;
}

late-more : (size : ℕ) (hand : Line) (w : List ℕ) (lines : List Line) → BeginsWith (w ∷ []) lines → size < length (line_text hand) + 1 + length w → BreaksLate size lines → BreaksLate size (hand ∷ lines)
late-more size hand w lines b l k =
    let e : lines ≡ (w ∷ b.0) ∷ b.1 = b.2 in
    rw e (l, rw e at k)

begins-self : (hand : Line) (lines : List Line) → BeginsWith hand (hand ∷ lines)
begins-self [] lines = tt
begins-self (w ∷ ws) lines = ([], lines, ap (λ (us : Line). us ∷ lines) (sym (append-nil (w ∷ ws))))

opens-break : (size : ℕ) (hand : Line) (t : Tree) (part : List Tree) (lines : List Line) (b : ℕ) (bs : List ℕ) → IsNormal t → text_of t ≡ b ∷ bs → IsLine size hand
    → size < length (line_text hand) + 1 + length (b ∷ bs) → Opens size ((b ∷ bs) ∷ []) part lines → Opens size hand (t ∷ part) (hand ∷ lines)
opens-break size hand t part lines b bs n e l k o = record {
  normal = (n, o.normal);
  filled = record { all_words = rw (words-take t part b bs e) (ap (λ us. hand ++ us) o.filled.all_words); are_lines = (l, o.filled.are_lines); late = late-more size hand (b ∷ bs) lines o.begins k o.filled.late };
  begins = begins-self hand lines;
}

-- the words in hand as the last line of a part
abbrev pub rest_of : Line → List Line
rest_of [] = []
rest_of (w ∷ ws) = (w ∷ ws) ∷ []

-- The words in hand make a line, if there are any.
abbrev pub IsHand : ℕ → Line → Type 0
IsHand size [] = Unit {0}
IsHand size (w ∷ ws) = IsLine size (w ∷ ws) × Each (λ v. is_filled v ≡ true) (w ∷ ws)

opens-none : (size : ℕ) (hand : Line) → IsHand size hand → Opens size hand [] (rest_of hand)
opens-none size [] h = record { normal = tt; filled = record { all_words = refl; are_lines = tt; late = tt }; begins = tt }
opens-none size (w ∷ ws) h = record {
  normal = tt;
  filled = record { all_words = refl; are_lines = (h.0, tt); late = tt };
  begins = ([], [], ap (λ (us : Line). us ∷ []) (sym (append-nil (w ∷ ws))));
}

-- At the end the line in hand is sent, if it isn't empty.
pub Begun-end : (size : ℕ) (hand : Line) → IsHand size hand → Begun size hand [] (line_packets (rest_of hand))
Begun-end size hand h = ends (rest_of hand) (opens-none size hand h) refl

-- A bracket sends the line in hand, and then follows it.
pub Begun-bracket : (size : ℕ) (hand : Line) (bracket : Tree) (x y : List Tree) → IsHand size hand → IsBracket bracket → Begun size [] x y → Begun size hand (bracket ∷ x) (line_packets (rest_of hand) ++ bracket ∷ y)
Begun-bracket size hand bracket x y h b f = goes_on [] (rest_of hand) bracket x y (opens-none size hand h) b (Begun-filling size x y f) refl refl

-- An empty word changes nothing.
pub Begun-skip : (size : ℕ) (hand : Line) (t : Tree) (x y : List Tree) → IsNormal t → text_of t ≡ [] → Begun size hand x y → Begun size hand (t ∷ x) y
Begun-skip size hand t x y n e (ends lines o f) = ends lines (opens-skip size hand t x lines n e o) f
Begun-skip size hand t x y n e (goes_on part lines bracket x' y' o b f g h) =
    goes_on (t ∷ part) lines bracket x' y' (opens-skip size hand t part lines n e o) b f (ap (λ us. t ∷ us) g) h

-- A word that is taken stands in the line in hand.
pub Begun-take : (size : ℕ) (hand : Line) (t : Tree) (b : ℕ) (bs : List ℕ) (x y : List Tree) → IsNormal t → text_of t ≡ b ∷ bs → Begun size (hand ++ (b ∷ bs) ∷ []) x y → Begun size hand (t ∷ x) y
Begun-take size hand t b bs x y n e (ends lines o f) = ends lines (opens-take size hand t x lines b bs n e o) f
Begun-take size hand t b bs x y n e (goes_on part lines bracket x' y' o k f g h) =
    goes_on (t ∷ part) lines bracket x' y' (opens-take size hand t part lines b bs n e o) k f (ap (λ us. t ∷ us) g) h

-- A word that doesn't fit sends the line in hand, and begins the next.
pub Begun-break : (size : ℕ) (hand : Line) (t : Tree) (b : ℕ) (bs : List ℕ) (x y : List Tree) → IsNormal t → text_of t ≡ b ∷ bs → IsLine size hand
    → size < length (line_text hand) + 1 + length (b ∷ bs) → Begun size ((b ∷ bs) ∷ []) x y → Begun size hand (t ∷ x) (text_packet (line_text hand) ∷ y)
Begun-break size hand t b bs x y n e l k (ends lines o f) = ends (hand ∷ lines) (opens-break size hand t x lines b bs n e l k o) (ap (λ us. text_packet (line_text hand) ∷ us) f)
Begun-break size hand t b bs x y n e l k (goes_on part lines bracket x' y' o i f g h) =
    goes_on (t ∷ part) (hand ∷ lines) bracket x' y' (opens-break size hand t part lines b bs n e l k o) i f (ap (λ us. t ∷ us) g) (ap (λ us. text_packet (line_text hand) ∷ us) h)

no_lines : (size : ℕ) (lines : List Line) → Each (IsLine size) lines → flat_map (λ line. line) lines ≡ [] → lines ≡ []
no_lines size [] h e = refl
no_lines size ([] ∷ ls) h e = absurd (omega (arith, h.0.0))
no_lines size ((w ∷ ws) ∷ ls) h e = cc

not_nil : (part : List Tree) (bracket : Tree) (x : List Tree) → [] ≡ part ++ bracket ∷ x → ⊥
not_nil [] bracket x e = cc
not_nil (t ∷ ts) bracket x e = cc

-- Of nothing there is no filling but nothing.
pub Begun-nothing : (size : ℕ) (x y : List Tree) → x ≡ [] → Begun size [] x y → y ≡ []
Begun-nothing size x y e (ends lines o f) =
    let w : flat_map (λ (line : Line). line) lines ≡ [] = o.filled.all_words ∙ ap words_in e in
    f ∙ ap line_packets (no_lines size lines o.filled.are_lines w)
Begun-nothing size x y e (goes_on part lines bracket x' y' o i f g h) = absurd (not_nil part bracket x' (sym e ∙ g))
