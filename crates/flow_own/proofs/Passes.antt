-- Going over what is read, of which nothing is kept.
use Rattle.flow_limits.specs.declared.TheConstants.{TEXT_LIMIT}
use Rattle.std.proofs.Common.{◌≡◌, ℕ, ◌-◌, ◌<◌, List, Option, Some, Result, Ok, Err, refl, sym, ap, ◌∙◌, subst}
use Rattle.std.specs.Int.{w32}
use Rattle.flow_packet.specs.declared.packet.Kind.{Kind}
use Rattle.flow_component.specs.declared.Answer.{Answer}
use Rattle.flow_own.specs.declared.tape.End.{End}
use Rattle.flow_own.specs.declared.tape.Entry.{Entry}
use Rattle.flow_own.specs.declared.unread.Unread.{Unread}
use Rattle.flow_own.specs.declared.unread.Unread.TheVariants as stops
use Rattle.flow_own.specs.Acts.{Made}
use Rattle.flow_own.specs.Reading.{Read, ◌>>=◌, Stops, StopsThere, behind, number_at, text_at, many_at, packet_at, answer_at, made_at, dropped_at, end_at, entry_at}
use Rattle.flow_own.proofs.Many.{ok_is, pass-stops}

-- What was gone over is there.
pub passed : {A : Type 0} (r : Read A) (rest : List ℕ) → behind r ≡ Ok rest → (a : A) × (r ≡ Ok (a, rest))
passed (Ok x) rest e = (x.0, ap (λ (b : List ℕ). Ok (x.0, b)) (ok_is x.1 rest e))
passed (Err left) rest e = absurd cc

-- Where going over it stopped, reading does.
pub unpassed : {A : Type 0} (stop : Unread) (r : Read A) → StopsThere stop (behind r) → StopsThere stop r
unpassed (stops.Fault left) (Ok x) e = absurd cc
unpassed (stops.Fault left) (Err at) e = cc
unpassed stops.NoMemory r e = absurd e

-- The other way round.
pub stops_behind : {A : Type 0} (stop : Unread) (r : Read A) → StopsThere stop r → StopsThere stop (behind r)
stops_behind (stops.Fault left) r e = ap behind e
stops_behind stops.NoMemory r e = absurd e

-- A function that takes no memory stops as one that may take some.
pub may_stop : {Y : Type 0} (stop : Unread) (r : Result Y ℕ) → StopsThere stop r → Stops stop r
may_stop (stops.Fault left) r e = e
may_stop stops.NoMemory r e = absurd e

-- Where a step stops, all do.
pub all_stop : {A B : Type 0} (stop : Unread) (r : Result A ℕ) (next : A → Result B ℕ) → StopsThere stop r → StopsThere stop (r >>= next)
all_stop (stops.Fault left) r next e = ap (λ s. s >>= next) e
all_stop stops.NoMemory r next e = absurd e

-- What is behind one thing and then another is found by going over both.
pub behind_then : {A B : Type 0} (r : Read A) (next : A → List ℕ → Read B) (pass : List ℕ → Result (List ℕ) ℕ) → ((a : A) (bytes : List ℕ) → behind (next a bytes) ≡ pass bytes) → behind (r >>= λ x. next x.0 x.1) ≡ (behind r >>= pass)
behind_then (Ok x) next pass same = same x.0 x.1
behind_then (Err left) next pass same = refl

-- A value that is made of what was read, and what is behind it.
pub behind_value : {A B : Type 0} (r : Read A) (value : A → B) → behind (r >>= λ x. Ok (value x.0, x.1)) ≡ behind r
behind_value (Ok x) value = refl
behind_value (Err left) value = refl

-- Many of a sort stop where one of them does.
pub many_stop : {A : Type 0} (read : List ℕ → Read A) (stop : Unread) (count i : ℕ) (bytes : List ℕ) (total : Result (List ℕ) ℕ) → i < count → StopsThere stop (read bytes) → behind (many_at read (count - i) bytes) ≡ total → StopsThere stop total
many_stop read (stops.Fault left) count i bytes total less here so_far = pass-stops read (stops.Fault left) count i bytes total less here so_far
many_stop read stops.NoMemory count i bytes total less here so_far = absurd here

-- ---- the packet that was made

abbrev pass_sized : ℕ × List ℕ → Result (List ℕ) ℕ
pass_sized size = behind (text_at size.0 size.1)

sized : (kind : Kind) (r : Read ℕ) → behind {A = Option Made} (r >>= λ size. text_at size.0 size.1 >>= λ text. Ok (Some (kind, text.0), text.1)) ≡ (r >>= pass_sized)
sized kind (Ok size) = behind_value (text_at size.0 size.1) (λ (text : List ℕ). Some (kind, text))
sized kind (Err left) = refl

pub packet_behind : (kind : Kind) (bytes : List ℕ) → behind (packet_at kind bytes) ≡ (number_at w32 TEXT_LIMIT bytes >>= pass_sized)
unfolding packet_at
packet_behind kind bytes = sized kind (number_at w32 TEXT_LIMIT bytes)

pub packet_stops : (stop : Unread) (kind : Kind) (bytes : List ℕ) → StopsThere stop (number_at w32 TEXT_LIMIT bytes) → StopsThere stop (behind (packet_at kind bytes))
packet_stops stop kind bytes e = subst (λ (r : Result (List ℕ) ℕ). StopsThere stop r) (sym (packet_behind kind bytes)) (all_stop stop (number_at w32 TEXT_LIMIT bytes) pass_sized e)

pub packet_text : (kind : Kind) (bytes rest : List ℕ) (size : ℕ) → number_at w32 TEXT_LIMIT bytes ≡ Ok (size, rest) → behind (packet_at kind bytes) ≡ behind (text_at size rest)
packet_text kind bytes rest size e = packet_behind kind bytes ∙ ap (λ (r : Read ℕ). r >>= pass_sized) e

-- ---- an entry

abbrev entry_of : Answer → Option Made → List ℕ → End → Entry
entry_of answer made dropped end = record { answer = answer; made = made; dropped = dropped; end = end }

abbrev pass_end : List ℕ → Result (List ℕ) ℕ
pass_end bytes = behind (end_at bytes)

abbrev pass_dropped : List ℕ → Result (List ℕ) ℕ
pass_dropped bytes = behind (dropped_at bytes) >>= pass_end

abbrev pass_made : List ℕ → Result (List ℕ) ℕ
pass_made bytes = behind (made_at bytes) >>= pass_dropped

pub entry_behind : (bytes : List ℕ) → behind (entry_at bytes) ≡ (behind (answer_at bytes) >>= pass_made)
unfolding entry_at
entry_behind bytes =
    behind_then (answer_at bytes) (λ answer b. made_at b >>= λ made. dropped_at made.1 >>= λ dropped. end_at dropped.1 >>= λ end. Ok (entry_of answer made.0 dropped.0 end.0, end.1)) pass_made (λ answer b.
    behind_then (made_at b) (λ made b. dropped_at b >>= λ dropped. end_at dropped.1 >>= λ end. Ok (entry_of answer made dropped.0 end.0, end.1)) pass_dropped (λ made b.
    behind_then (dropped_at b) (λ dropped b. end_at b >>= λ end. Ok (entry_of answer made dropped end.0, end.1)) pass_end (λ dropped b.
    behind_value (end_at b) (entry_of answer made dropped))))

-- Behind its answer.
pub entry_answered : (bytes one : List ℕ) (answer : Answer) → answer_at bytes ≡ Ok (answer, one) → behind (entry_at bytes) ≡ pass_made one
entry_answered bytes one answer e = entry_behind bytes ∙ ap (λ (r : Read Answer). behind r >>= pass_made) e

-- Behind what was made, too.
pub entry_made : (bytes one two : List ℕ) (answer : Answer) → answer_at bytes ≡ Ok (answer, one) → behind (made_at one) ≡ Ok two → behind (entry_at bytes) ≡ pass_dropped two
entry_made bytes one two answer e made = entry_answered bytes one answer e ∙ ap (λ (r : Result (List ℕ) ℕ). r >>= pass_dropped) made

-- Behind what was dropped, too.
pub entry_dropped : (bytes one two three : List ℕ) (answer : Answer) → answer_at bytes ≡ Ok (answer, one) → behind (made_at one) ≡ Ok two → behind (dropped_at two) ≡ Ok three → behind (entry_at bytes) ≡ behind (end_at three)
entry_dropped bytes one two three answer e made dropped = entry_made bytes one two answer e made ∙ ap (λ (r : Result (List ℕ) ℕ). r >>= pass_end) dropped

pub answer_stops : (stop : Unread) (bytes : List ℕ) → StopsThere stop (answer_at bytes) → StopsThere stop (behind (entry_at bytes))
answer_stops stop bytes e =
    subst (λ (r : Result (List ℕ) ℕ). StopsThere stop r) (sym (entry_behind bytes)) (all_stop stop (behind (answer_at bytes)) pass_made (stops_behind stop (answer_at bytes) e))

pub made_stops : (stop : Unread) (bytes one : List ℕ) (answer : Answer) → answer_at bytes ≡ Ok (answer, one) → StopsThere stop (behind (made_at one)) → StopsThere stop (behind (entry_at bytes))
made_stops stop bytes one answer e made =
    subst (λ (r : Result (List ℕ) ℕ). StopsThere stop r) (sym (entry_answered bytes one answer e)) (all_stop stop (behind (made_at one)) pass_dropped made)

pub dropped_stops : (stop : Unread) (bytes one two : List ℕ) (answer : Answer) → answer_at bytes ≡ Ok (answer, one) → behind (made_at one) ≡ Ok two → StopsThere stop (behind (dropped_at two)) → StopsThere stop (behind (entry_at bytes))
dropped_stops stop bytes one two answer e made dropped =
    subst (λ (r : Result (List ℕ) ℕ). StopsThere stop r) (sym (entry_made bytes one two answer e made)) (all_stop stop (behind (dropped_at two)) pass_end dropped)

pub end_stops : (stop : Unread) (bytes one two three : List ℕ) (answer : Answer) → answer_at bytes ≡ Ok (answer, one) → behind (made_at one) ≡ Ok two → behind (dropped_at two) ≡ Ok three → StopsThere stop (end_at three)
    → StopsThere stop (behind (entry_at bytes))
end_stops stop bytes one two three answer e made dropped end =
    subst (λ (r : Result (List ℕ) ℕ). StopsThere stop r) (sym (entry_dropped bytes one two three answer e made dropped)) (stops_behind stop (end_at three) end)

pub entry_there : (bytes one two three rest : List ℕ) (answer : Answer) (end : End) → answer_at bytes ≡ Ok (answer, one) → behind (made_at one) ≡ Ok two → behind (dropped_at two) ≡ Ok three → end_at three ≡ Ok (end, rest)
    → behind (entry_at bytes) ≡ Ok rest
entry_there bytes one two three rest answer end e made dropped ended = entry_dropped bytes one two three answer e made dropped ∙ ap behind ended
