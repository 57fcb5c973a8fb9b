-- The last packets of the stretches of a stream.
use Rattle.std.proofs.Common.{◌≡◌, ℕ, ◌+◌, ◌≤◌, ◌<◌, Bool, true, false, List, [], ◌∷◌, ◌++◌, length, map, refl, ap, ◌∙◌, arith, nat_lt}
use Rattle.std.specs.Prelude.{not, ◌||◌}
use Rattle.std.proofs.lemmas.Bool.Decides.{nat_tests}
use Rattle.flow_packet.specs.declared.packet.Kind.{Kind}
use Rattle.flow_packet.specs.declared.packet.Kind.TheVariants.{Normal, Open, Close}
use Rattle.flow_packet.specs.Tree.{Tree, kind_of, content}
use Rattle.flow_component.proofs.Streams.{content-kind}
use Rattle.flow_pick.specs.Places.{Place, picked_behind, is_bracket, one_longer, stretch}
use Rattle.flow_pick.specs.Tail.{AreNormal, is_among_last}
use Rattle.flow_pick.proofs.PickingStream.{one_of, picked-first}

-- A packet is among the last, with these behind it.
abbrev pub is_last : ℕ → Tree → List Tree → Bool
is_last n packet later = is_bracket (kind_of packet) || nat_lt (stretch later) n

-- What is picked of a stream, from the back.
abbrev pub sift : (Tree → List Tree → Bool) → List Tree → List Tree
sift picks [] = []
sift picks (packet ∷ later) = one_of (picks packet later) packet ++ sift picks later

-- The last packets and the brackets.
abbrev pub lasts : ℕ → List Tree → List Tree
lasts n x = sift (is_last n) x

-- The other packets.
abbrev pub others : ℕ → List Tree → List Tree
others n x = sift (λ packet later. not (is_last n packet later)) x

sifted : (picks : Place → Bool) (f : Tree → List Tree → Bool) → ((earlier : List Tree) (packet : Tree) (later : List Tree) → picks (record { earlier = earlier; packet = packet; later = later }) ≡ f packet later)
    → (earlier x : List Tree) → picked_behind picks earlier x ≡ sift f x
sifted picks f same earlier [] = refl
sifted picks f same earlier (packet ∷ later) =
    picked-first picks earlier packet later ∙ (λ i. one_of (same earlier packet later i) packet ++ sifted picks f same (packet ∷ earlier) later i)

-- They are what the meaning says.
pub lasts-are : (n : ℕ) (x : List Tree) → picked_behind (is_among_last n) [] x ≡ lasts n x
lasts-are n x = sifted (is_among_last n) (is_last n) (λ earlier packet later. refl) [] x

pub others-are : (n : ℕ) (x : List Tree) → picked_behind (λ place. not (is_among_last n place)) [] x ≡ others n x
others-are n x = sifted (λ place. not (is_among_last n place)) (λ packet later. not (is_last n packet later)) (λ earlier packet later. refl) [] x

-- Normal packets stay so as contents.
pub normal-contents : (ts : List Tree) → AreNormal ts → AreNormal (map content ts)
normal-contents [] n = tt
normal-contents (t ∷ ts) n = (content-kind t ∙ n.0, normal-contents ts n.1)

-- Normal packets lengthen a stretch by their number.
pub stretch-more : (hs z : List Tree) → AreNormal hs → stretch (hs ++ z) ≡ length hs + stretch z
stretch-more [] z n = omega arith
stretch-more (h ∷ hs) z n = ap (λ (k : Kind). one_longer k (stretch (hs ++ z))) n.0 ∙ omega (arith, stretch-more hs z n.1)

-- A Normal packet with enough behind it isn't among the last.
pub first-off : (n : ℕ) (h : Tree) (ts : List Tree) → kind_of h ≡ Normal → n ≤ stretch ts → (lasts n (h ∷ ts) ≡ lasts n ts) × (others n (h ∷ ts) ≡ h ∷ others n ts)
first-off n h ts k l =
    let b : nat_lt (stretch ts) n ≡ false = grind (arith, nat_tests) in
    let w : is_last n h ts ≡ false = (λ i. is_bracket (k i) || b i) in
    (ap (λ (x : Bool). one_of x h ++ lasts n ts) w, ap (λ (x : Bool). one_of (not x) h ++ others n ts) w)

-- One with fewer behind it is.
pub first-on : (n : ℕ) (h : Tree) (ts : List Tree) → kind_of h ≡ Normal → stretch ts < n → (lasts n (h ∷ ts) ≡ h ∷ lasts n ts) × (others n (h ∷ ts) ≡ others n ts)
first-on n h ts k l =
    let b : nat_lt (stretch ts) n ≡ true = grind (arith, nat_tests) in
    let w : is_last n h ts ≡ true = (λ i. is_bracket (k i) || b i) in
    (ap (λ (x : Bool). one_of x h ++ lasts n ts) w, ap (λ (x : Bool). one_of (not x) h ++ others n ts) w)

-- A bracket stays, and ends the stretch before it.
pub bracket-on : (n : ℕ) (b : Tree) (ts : List Tree) → is_bracket (kind_of b) ≡ true → (lasts n (b ∷ ts) ≡ b ∷ lasts n ts) × (others n (b ∷ ts) ≡ others n ts)
bracket-on n b ts k =
    let w : is_last n b ts ≡ true = ap (λ (x : Bool). x || nat_lt (stretch ts) n) k in
    (ap (λ (x : Bool). one_of x b ++ lasts n ts) w, ap (λ (x : Bool). one_of (not x) b ++ others n ts) w)

ends-by : (k : Kind) (n : ℕ) → is_bracket k ≡ true → one_longer k n ≡ 0
ends-by Normal n e = absurd (cc)
ends-by Open n e = refl
ends-by Close n e = refl

-- No stretch begins with a bracket.
pub bracket-ends : (b : Tree) (ts : List Tree) → is_bracket (kind_of b) ≡ true → stretch (b ∷ ts) ≡ 0
bracket-ends b ts k = ends-by (kind_of b) (stretch ts) k

-- So many Normal packets at most are all among the last where their stretch ends behind them.
pub held-on : (n : ℕ) (hs z : List Tree) → AreNormal hs → length hs ≤ n → stretch z ≡ 0 → (lasts n (hs ++ z) ≡ hs ++ lasts n z) × (others n (hs ++ z) ≡ others n z)
held-on n [] z k few none = (refl, refl)
held-on n (h ∷ hs) z k few none =
    let more = held-on n hs z k.1 (omega (arith, few)) none in
    let on = first-on n h (hs ++ z) k.0 (omega (arith, stretch-more hs z k.1, none, few)) in
    (on.0 ∙ ap (λ (us : List Tree). h ∷ us) more.0, on.1 ∙ more.1)
