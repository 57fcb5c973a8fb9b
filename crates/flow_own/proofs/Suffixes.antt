-- What is behind an entry that was read is an end of the bytes.
use Rattle.flow_limits.specs.declared.TheConstants.{HANDS_LIMIT, TEXT_LIMIT}
use Rattle.std.proofs.Common.{◌≡◌, ℕ, suc, zero, ◌-◌, ◌+◌, ◌≤◌, ◌==◌, Bool, true, false, cond, nat_lt, List, [], ◌∷◌, length, take, drop, Option, None, Some, Ok, Err, refl, sym, ap, ◌∙◌, subst, arith, drop-drop, length-drop}
use Rattle.std.proofs.lemmas.Bool.{ltb-false}
use Rattle.std.specs.Int.{Width, w8, w16, w32, w64, byte_len, from_le_bytes}
use Rattle.flow_packet.specs.declared.packet.Kind.{Kind}
use Rattle.flow_component.specs.declared.Answer.{Answer}
use Rattle.flow_component.specs.declared.Answer.TheVariants as answers
use Rattle.flow_component.specs.declared.Wish.TheVariants as wishes
use Rattle.flow_component.specs.declared.OwnFail.TheVariants as owns
use Rattle.flow_own.specs.declared.tape.End.{End}
use Rattle.flow_own.specs.declared.tape.End.TheVariants as ends
use Rattle.flow_own.specs.declared.tape.Entry.{Entry}
use Rattle.flow_own.specs.Acts.{Made}
use Rattle.flow_own.specs.Reading.{Read, ◌>>=◌, number_at, text_at, many_at, id_at, any_at, answer_by, answer_at, kind_by, packet_at, made_at, dropped_at, send_at, end_with, end_by, end_at, entry_at}
use Rattle.flow_own.proofs.Many.{bind_ok, ok_is}

-- These bytes are the others without some at their front.
pub record EndsSo (after bytes : List ℕ) : Type 0 where
  pub front : ℕ
  pub within : front ≤ length bytes
  pub is : after ≡ drop front bytes

pub whole : (bytes : List ℕ) → EndsSo bytes bytes
whole bytes = record { front = 0; within = omega arith; is = refl }

pub further : (a b c : List ℕ) → EndsSo a b → EndsSo b c → EndsSo a c
further a b c first second =
    let long : length b ≡ length c - second.front = ap length second.is ∙ length-drop second.front c in
    record {
      front = second.front + first.front;
      within = omega (arith, first.within, second.within, long);
      is = first.is ∙ ap (drop first.front) second.is ∙ drop-drop first.front second.front c;
    }

-- An end of bytes is what is behind as many as are missing in it.
pub cut-off : (after bytes : List ℕ) → EndsSo after bytes → (length after ≤ length bytes) × (drop (length bytes - length after) bytes ≡ after)
cut-off after bytes e =
    let long : length after ≡ length bytes - e.front = ap length e.is ∙ length-drop e.front bytes in
    let front : length bytes - length after ≡ e.front = omega (arith, long, e.within) in
    (omega (arith, long), ap (λ (n : ℕ). drop n bytes) front ∙ sym e.is)

-- A reader leaves an end of the bytes.
abbrev pub LeavesEnd : {A : Type 0} → (List ℕ → Read A) → Type 0
LeavesEnd {A} read = (bytes : List ℕ) (x : A × List ℕ) → read bytes ≡ Ok x → EndsSo x.1 bytes

pub given-ends : {A : Type 0} (a : A) → LeavesEnd (λ bytes. Ok (a, bytes))
given-ends a bytes x e = subst (λ y. EndsSo y.1 bytes) (ok_is (a, bytes) x e) (whole bytes)

pub then-ends : {A B : Type 0} (read : List ℕ → Read A) (next : A → List ℕ → Read B) → LeavesEnd read → ((a : A) → LeavesEnd (next a)) → LeavesEnd (λ bytes. read bytes >>= λ x. next x.0 x.1)
then-ends read next first second bytes x e =
    let a = bind_ok (read bytes) (λ y. next y.0 y.1) x e in
    further x.1 a.0.1 bytes (second a.0.0 a.0.1 x a.2) (first bytes a.0 a.1)

either-ends : {A : Type 0} (b : Bool) (f g : List ℕ → Read A) → LeavesEnd f → LeavesEnd g → LeavesEnd (λ bytes. cond b (f bytes) (g bytes))
either-ends true f g first second = first
either-ends false f g first second = second

-- Where the bytes aren't too few, so many of them are taken off.
taken-ends : {A : Type 0} (b : Bool) (n : ℕ) (bytes : List ℕ) (r : Read A) → nat_lt (length bytes) n ≡ b → ((x : A × List ℕ) → r ≡ Ok x → x.1 ≡ drop n bytes) → (x : A × List ℕ) → cond b (Err 0) r ≡ Ok x → EndsSo x.1 bytes
taken-ends true n bytes r e is x read = absurd cc
taken-ends false n bytes r e is x read = record { front = n; within = ltb-false _ _ e; is = is x read }

within-most : (b : Bool) (number left : ℕ) (rest : List ℕ) (x : ℕ × List ℕ) → cond b (Err left) (Ok (number, rest)) ≡ Ok x → x.1 ≡ rest
within-most true number left rest x e = absurd cc
within-most false number left rest x e = ap (λ (y : ℕ × List ℕ). y.1) (sym (ok_is (number, rest) x e))

pub number-ends : (width : Width) (most : ℕ) → LeavesEnd (number_at width most)
number-ends width most bytes x e =
    let number = from_le_bytes width (take (byte_len width) bytes) in
    taken-ends (nat_lt (length bytes) (byte_len width)) (byte_len width) bytes (cond (nat_lt most number) (Err (length bytes)) (Ok (number, drop (byte_len width) bytes))) refl
    (λ y read. within-most (nat_lt most number) number (length bytes) (drop (byte_len width) bytes) y read) x e

text-ends : (size : ℕ) → LeavesEnd (text_at size)
text-ends size bytes x e =
    taken-ends (nat_lt (length bytes) size) size bytes (Ok (take size bytes, drop size bytes)) refl
    (λ y read. ap (λ (z : List ℕ × List ℕ). z.1) (sym (ok_is (take size bytes, drop size bytes) y read))) x e

pub many-ends : {A : Type 0} (read : List ℕ → Read A) (n : ℕ) → LeavesEnd read → LeavesEnd (many_at read n)
unfolding many_at
many-ends read zero one = given-ends []
many-ends read (suc n) one =
    then-ends read (λ a bytes. many_at read n bytes >>= λ others. Ok (a ∷ others.0, others.1)) one
    (λ a. then-ends (many_at read n) (λ others bytes. Ok (a ∷ others, bytes)) (many-ends read n one) (λ others. given-ends (a ∷ others)))

id-ends : LeavesEnd id_at
id-ends = number-ends w64 18446744073709551615

any-ends : LeavesEnd any_at
any-ends = number-ends w32 4294967295

-- A value with one field that is read.
field-ends : {A B : Type 0} (read : List ℕ → Read A) (value : A → B) → LeavesEnd read → LeavesEnd (λ bytes. read bytes >>= λ n. Ok (value n.0, n.1))
field-ends read value one = then-ends read (λ a bytes. Ok (value a, bytes)) one (λ a. given-ends (value a))

answer-ends : LeavesEnd answer_at
unfolding answer_at
answer-ends =
    then-ends (number_at w8 4) answer_by (number-ends w8 4) (λ case.
    either-ends (case == 0) (λ bytes. Ok (answers.Start, bytes)) _ (given-ends answers.Start) (
    either-ends (case == 1) (λ bytes. id_at bytes >>= λ n. Ok (answers.Got n.0, n.1)) _ (field-ends id_at (λ n. answers.Got n) id-ends) (
    either-ends (case == 2) (λ bytes. Ok (answers.End, bytes)) _ (given-ends answers.End) (
    either-ends (case == 3) (λ bytes. Ok (answers.Sent, bytes)) _ (given-ends answers.Sent) (
    field-ends any_at (λ n. answers.Level n) any-ends)))))

packet-ends : (kind : Kind) → LeavesEnd (packet_at kind)
unfolding packet_at
packet-ends kind =
    then-ends (number_at w32 TEXT_LIMIT) (λ size bytes. text_at size bytes >>= λ text. Ok (Some (kind, text.0), text.1)) (number-ends w32 TEXT_LIMIT)
    (λ size. field-ends (text_at size) (λ text. Some (kind, text)) (text-ends size))

abbrev made_by : ℕ → List ℕ → Read (Option Made)
made_by case bytes = cond (case == 0) (Ok (None, bytes)) (packet_at (kind_by case) bytes)

made-ends : LeavesEnd made_at
unfolding made_at
made-ends =
    then-ends (number_at w8 3) made_by (number-ends w8 3)
    (λ case. either-ends (case == 0) (λ bytes. Ok (None, bytes)) (packet_at (kind_by case)) (given-ends None) (packet-ends (kind_by case)))

dropped-ends : LeavesEnd dropped_at
unfolding dropped_at
dropped-ends = then-ends (number_at w16 HANDS_LIMIT) (many_at id_at) (number-ends w16 HANDS_LIMIT) (λ count. many-ends id_at count id-ends)

abbrev sends : ℕ → ℕ → End
sends port id = ends.Wish (wishes.Send (record { 0 = port }) id)

send-ends : LeavesEnd send_at
unfolding send_at
send-ends = then-ends any_at (λ port bytes. id_at bytes >>= λ id. Ok (sends port id.0, id.1)) any-ends (λ port. field-ends id_at (sends port) id-ends)

end-ends : LeavesEnd end_at
unfolding end_at
end-ends =
    then-ends (number_at w8 7) end_by (number-ends w8 7) (λ case.
    either-ends (case == 1) send_at _ send-ends (
    either-ends (case == 3) (λ bytes. Ok (ends.Wish wishes.Deactivate, bytes)) _ (given-ends (ends.Wish wishes.Deactivate)) (
    either-ends (case == 5) (λ bytes. id_at bytes >>= λ n. Ok (ends.Fail (owns.Packet n.0), n.1)) _ (field-ends id_at (λ n. ends.Fail (owns.Packet n)) id-ends) (
    either-ends (case == 7) (λ bytes. Ok (ends.Fail owns.TapeLimit, bytes)) _ (given-ends (ends.Fail owns.TapeLimit)) (
    field-ends any_at (end_with case) any-ends)))))

abbrev entry_of : Answer → Option Made → List ℕ → End → Entry
entry_of answer made dropped end = record { answer = answer; made = made; dropped = dropped; end = end }

pub entry-ends : LeavesEnd entry_at
unfolding entry_at
entry-ends =
    then-ends answer_at (λ answer bytes. made_at bytes >>= λ made. dropped_at made.1 >>= λ dropped. end_at dropped.1 >>= λ end. Ok (entry_of answer made.0 dropped.0 end.0, end.1)) answer-ends (λ answer.
    then-ends made_at (λ made bytes. dropped_at bytes >>= λ dropped. end_at dropped.1 >>= λ end. Ok (entry_of answer made dropped.0 end.0, end.1)) made-ends (λ made.
    then-ends dropped_at (λ dropped bytes. end_at bytes >>= λ end. Ok (entry_of answer made dropped end.0, end.1)) dropped-ends (λ dropped.
    field-ends end_at (entry_of answer made dropped) end-ends)))
