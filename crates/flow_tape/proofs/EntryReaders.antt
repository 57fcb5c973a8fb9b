-- The readers of an end, of an entry and of a tape.
use Rattle.flow_limits.specs.declared.TheConstants.{PROCESS_LIMIT, TAPE_LIMIT}
use Rattle.std.proofs.Common.{◌≡◌, ℕ, ◌≤◌, ◌^◌, List, [], ◌∷◌, ◌++◌, length, take, Option, None, Ok, suc, zero, refl, sym, ap, ◌∙◌, arith, length-append}
use Rattle.std.specs.Prelude.{replicate}
use Rattle.std.specs.Int.{w8, w32, w64}
use Rattle.std.specs.List.{flat_map, AllByRecursion}
use Rattle.std.proofs.lemmas.List.{take_at}
use Rattle.flow_component.specs.declared.Answer.{Answer}
use Rattle.flow_component.specs.declared.Answer.TheVariants as answers
use Rattle.flow_component.specs.declared.Wish.{Wish}
use Rattle.flow_component.specs.declared.Wish.TheVariants as wishes
use Rattle.flow_component.specs.declared.OwnFail.{OwnFail}
use Rattle.flow_component.specs.declared.OwnFail.TheVariants as owns
use Rattle.flow_own.specs.declared.tape.End.{End}
use Rattle.flow_own.specs.declared.tape.End.TheVariants as ends
use Rattle.flow_own.specs.declared.tape.Entry.{Entry}
use Rattle.flow_own.specs.Acts.{Made}
use Rattle.flow_own.specs.Recorded.{IsOfPart}
use Rattle.flow_tape.specs.Files.{name}
use Rattle.flow_tape.specs.Fields.{Field, Number, IsWhole, spelled, any_four, any_eight, answer_fields, made_fields, dropped_fields, end_fields, entry_fields, tape_fields, inner_fields}
use Rattle.flow_own.specs.Reading.{Read, ◌>>=◌, number_at, many_at, any_at, id_at, send_at, end_with, end_by, end_at, answer_at, made_at, dropped_at, entry_at}
use Rattle.flow_tape.specs.Reading.{letters_at, tape_at, tapes_at}
use Rattle.flow_tape.proofs.Readers.{AreBytes, Fits, Reads, matched-reads, joined_fields, AlsoAt, joined-reads, agreed-reads, given-reads}
use Rattle.flow_tape.proofs.FieldReaders.{wide32, number_fields, Any, number-reads}
use Rattle.flow_tape.proofs.ManyReaders.{some-many, many-reads, letters_fields, letters-reads}
use Rattle.flow_tape.proofs.ToldReaders.{any-reads, id-reads, case-reads, answer-reads, made-reads, dropped-reads}

-- ---- ends

abbrev end_case : End → ℕ
end_case (ends.Wish (wishes.Receive port)) = 0
end_case (ends.Wish (wishes.Send port id)) = 1
end_case (ends.Wish (wishes.Level port)) = 2
end_case (ends.Wish wishes.Deactivate) = 3
end_case (ends.Fail (owns.Own number)) = 4
end_case (ends.Fail (owns.Packet id)) = 5
end_case (ends.Fail (owns.Port port)) = 6
end_case (ends.Fail owns.TapeLimit) = 7
end_case (ends.Fail owns.Differs) = 8

abbrev end_rest : End → List Field
end_rest (ends.Wish (wishes.Receive port)) = any_four port.0 ∷ []
end_rest (ends.Wish (wishes.Send port id)) = any_four port.0 ∷ any_eight id ∷ []
end_rest (ends.Wish (wishes.Level port)) = any_four port.0 ∷ []
end_rest (ends.Wish wishes.Deactivate) = []
end_rest (ends.Fail (owns.Own number)) = any_four number ∷ []
end_rest (ends.Fail (owns.Packet id)) = any_eight id ∷ []
end_rest (ends.Fail (owns.Port port)) = any_four port ∷ []
end_rest (ends.Fail owns.TapeLimit) = []
end_rest (ends.Fail owns.Differs) = []

-- The end is of this case.
abbrev OfCase : ℕ → End → Type 0
OfCase k end = AlsoAt IsOfPart end_case k end

wish-case : (wish : Wish) → end_case (ends.Wish wish) ≤ 3
wish-case (wishes.Receive port) = omega arith
wish-case (wishes.Send port id) = omega arith
wish-case (wishes.Level port) = omega arith
wish-case wishes.Deactivate = omega arith

fail-case : (cause : OwnFail) → 4 ≤ end_case (ends.Fail cause)
fail-case (owns.Own number) = omega arith
fail-case (owns.Packet id) = omega arith
fail-case (owns.Port port) = omega arith
fail-case owns.TapeLimit = omega arith
fail-case owns.Differs = omega arith

of-receive : (end : End) → OfCase 0 end → (n : ℕ) × Any n × (end ≡ end_with 0 n)
of-receive (ends.Wish (wishes.Receive port)) also = (port.0, tt, refl)
of-receive (ends.Wish wish) also = absurd (let no = also.1 in cc)
of-receive (ends.Fail cause) also = absurd (omega (arith, also.1, fail-case cause))

of-level : (end : End) → OfCase 2 end → (n : ℕ) × Any n × (end ≡ end_with 2 n)
of-level (ends.Wish (wishes.Level port)) also = (port.0, tt, refl)
of-level (ends.Wish wish) also = absurd (let no = also.1 in cc)
of-level (ends.Fail cause) also = absurd (omega (arith, also.1, fail-case cause))

only-deactivate : (end : End) → OfCase 3 end → end ≡ ends.Wish wishes.Deactivate
only-deactivate (ends.Wish wishes.Deactivate) also = refl
only-deactivate (ends.Wish wish) also = absurd (let no = also.1 in cc)
only-deactivate (ends.Fail cause) also = absurd (omega (arith, also.1, fail-case cause))

of-own : (end : End) → OfCase 4 end → (n : ℕ) × Any n × (end ≡ end_with 4 n)
of-own (ends.Fail (owns.Own number)) also = (number, tt, refl)
of-own (ends.Fail cause) also = absurd (let no = also.1 in cc)
of-own (ends.Wish wish) also = absurd (omega (arith, also.1, wish-case wish))

of-packet : (end : End) → OfCase 5 end → (n : ℕ) × Any n × (end ≡ ends.Fail (owns.Packet n))
of-packet (ends.Fail (owns.Packet id)) also = (id, tt, refl)
of-packet (ends.Fail cause) also = absurd (let no = also.1 in cc)
of-packet (ends.Wish wish) also = absurd (omega (arith, also.1, wish-case wish))

of-port : (end : End) → OfCase 6 end → (n : ℕ) × Any n × (end ≡ end_with 6 n)
of-port (ends.Fail (owns.Port port)) also = (port, tt, refl)
of-port (ends.Fail cause) also = absurd (let no = also.1 in cc)
of-port (ends.Wish wish) also = absurd (omega (arith, also.1, wish-case wish))

only-limit : (end : End) → OfCase 7 end → end ≡ ends.Fail owns.TapeLimit
only-limit (ends.Fail owns.TapeLimit) also = refl
only-limit (ends.Fail cause) also = absurd (let no = also.1 in cc)
only-limit (ends.Wish wish) also = absurd (omega (arith, also.1, wish-case wish))

-- The wish to send a packet at a port.
abbrev sends : ℕ → ℕ → End
sends port id = ends.Wish (wishes.Send (record { 0 = port }) id)

abbrev send_port : End → ℕ
send_port (ends.Wish (wishes.Send port id)) = port.0
send_port end = 0

abbrev send_rest : End → List Field
send_rest (ends.Wish (wishes.Send port id)) = any_eight id ∷ []
send_rest end = []

of-send : (n : ℕ) (end : End) → AlsoAt (OfCase 1) send_port n end → (id : ℕ) × Any id × (end ≡ sends n id)
of-send n (ends.Wish (wishes.Send port id)) also = (id, tt, (λ i. sends (also.1 i) id))
of-send n (ends.Wish wish) also = absurd (let no = also.0.1 in cc)
of-send n (ends.Fail cause) also = absurd (omega (arith, also.0.1, fail-case cause))

same-send : (end : End) → OfCase 1 end → joined_fields (number_fields w32 4294967295) send_rest send_port end ≡ end_rest end
same-send (ends.Wish (wishes.Send port id)) also = refl
same-send (ends.Wish wish) also = absurd (let no = also.1 in cc)
same-send (ends.Fail cause) also = absurd (omega (arith, also.1, fail-case cause))

abbrev then_id : ℕ → List ℕ → Read End
then_id port bytes = id_at bytes >>= λ id. Ok (sends port id.0, id.1)

send-reads : Reads send_at end_rest (OfCase 1)
unfolding send_at
send-reads =
    agreed-reads send_at (joined_fields (number_fields w32 4294967295) send_rest send_port) (OfCase 1) end_rest (OfCase 1) (record { there = λ e also. also; back = λ e also. also; same = same-send })
    (joined-reads any_at (number_fields w32 4294967295) Any then_id send_rest (OfCase 1) send_port
    (record {
      first = any-reads;
      second = λ n fit. matched-reads id_at (number_fields w64 18446744073709551615) Any (sends n) send_rest (AlsoAt (OfCase 1) send_port n) (record { same = λ id. refl; there = λ id u. ((tt, refl), refl); back = of-send n }) id-reads;
      of_key = λ e also. tt;
      some = λ n fit. (sends n 0, ((omega arith, tt), ((tt, refl), refl)));
    }))

abbrev four : ℕ → List Field
four = number_fields w32 4294967295

by-case : (k : ℕ) → Fits (number_fields w8 7) Any k → Reads (end_by k) end_rest (OfCase k)
by-case zero fit = matched-reads any_at four Any (end_with 0) end_rest (OfCase 0) (record { same = λ n. refl; there = λ n u. (tt, refl); back = of-receive }) any-reads
by-case (suc zero) fit = send-reads
by-case (suc (suc zero)) fit = matched-reads any_at four Any (end_with 2) end_rest (OfCase 2) (record { same = λ n. refl; there = λ n u. (tt, refl); back = of-level }) any-reads
by-case (suc (suc (suc zero))) fit = given-reads (ends.Wish wishes.Deactivate) end_rest (OfCase 3) refl (tt, refl) only-deactivate
by-case (suc (suc (suc (suc zero)))) fit = matched-reads any_at four Any (end_with 4) end_rest (OfCase 4) (record { same = λ n. refl; there = λ n u. (tt, refl); back = of-own }) any-reads
by-case (suc (suc (suc (suc (suc zero))))) fit =
    matched-reads id_at (number_fields w64 18446744073709551615) Any (λ n. ends.Fail (owns.Packet n)) end_rest (OfCase 5) (record { same = λ n. refl; there = λ n u. (tt, refl); back = of-packet }) id-reads
by-case (suc (suc (suc (suc (suc (suc zero)))))) fit = matched-reads any_at four Any (end_with 6) end_rest (OfCase 6) (record { same = λ n. refl; there = λ n u. (tt, refl); back = of-port }) any-reads
by-case (suc (suc (suc (suc (suc (suc (suc zero))))))) fit = given-reads (ends.Fail owns.TapeLimit) end_rest (OfCase 7) refl (tt, refl) only-limit
by-case (suc (suc (suc (suc (suc (suc (suc (suc k)))))))) fit = absurd (omega (arith, fit.0.0))

some-end : (k : ℕ) → Fits (number_fields w8 7) Any k → (end : End) × Fits end_rest (OfCase k) end
some-end zero fit = (end_with 0 0, ((omega arith, tt), (tt, refl)))
some-end (suc zero) fit = (sends 0 0, ((omega arith, (omega arith, tt)), (tt, refl)))
some-end (suc (suc zero)) fit = (end_with 2 0, ((omega arith, tt), (tt, refl)))
some-end (suc (suc (suc zero))) fit = (ends.Wish wishes.Deactivate, (tt, (tt, refl)))
some-end (suc (suc (suc (suc zero)))) fit = (end_with 4 0, ((omega arith, tt), (tt, refl)))
some-end (suc (suc (suc (suc (suc zero))))) fit = (ends.Fail (owns.Packet 0), ((omega arith, tt), (tt, refl)))
some-end (suc (suc (suc (suc (suc (suc zero)))))) fit = (end_with 6 0, ((omega arith, tt), (tt, refl)))
some-end (suc (suc (suc (suc (suc (suc (suc zero))))))) fit = (ends.Fail owns.TapeLimit, (tt, (tt, refl)))
some-end (suc (suc (suc (suc (suc (suc (suc (suc k)))))))) fit = absurd (omega (arith, fit.0.0))

same-end : (end : End) → IsOfPart end → joined_fields (number_fields w8 7) end_rest end_case end ≡ end_fields end
same-end (ends.Wish (wishes.Receive port)) of = refl
same-end (ends.Wish (wishes.Send port id)) of = refl
same-end (ends.Wish (wishes.Level port)) of = refl
same-end (ends.Wish wishes.Deactivate) of = refl
same-end (ends.Fail (owns.Own number)) of = refl
same-end (ends.Fail (owns.Packet id)) of = refl
same-end (ends.Fail (owns.Port port)) of = refl
same-end (ends.Fail owns.TapeLimit) of = refl
same-end (ends.Fail owns.Differs) of = absurd of

end-reads : Reads end_at end_fields IsOfPart
unfolding end_at
end-reads =
    agreed-reads end_at (joined_fields (number_fields w8 7) end_rest end_case) IsOfPart end_fields IsOfPart (record { there = λ e of. of; back = λ e of. of; same = same-end })
    (joined-reads (number_at w8 7) (number_fields w8 7) Any end_by end_rest IsOfPart end_case (record { first = case-reads 7 (omega arith); second = by-case; of_key = λ e of. tt; some = some-end }))

-- ---- entries

-- The entry isn't a player's failure.
abbrev pub OfPart : Entry → Type 0
OfPart entry = IsOfPart entry.end

abbrev entry_of : Answer → Option Made → List ℕ → End → Entry
entry_of answer made dropped end = record { answer = answer; made = made; dropped = dropped; end = end }

abbrev deactivates : End
deactivates = ends.Wish wishes.Deactivate

-- What is asked of an entry with this answer; with this too that was made; and with this that was dropped.
abbrev Answered : Answer → Entry → Type 0
Answered answer entry = AlsoAt OfPart (λ e. e.answer) answer entry

abbrev Makes : Answer → Option Made → Entry → Type 0
Makes answer made entry = AlsoAt (Answered answer) (λ e. e.made) made entry

abbrev Drops : Answer → Option Made → List ℕ → Entry → Type 0
Drops answer made dropped entry = AlsoAt (Makes answer made) (λ e. e.dropped) dropped entry

abbrev then_end : Answer → Option Made → List ℕ → List ℕ → Read Entry
then_end answer made dropped bytes = end_at bytes >>= λ end. Ok (entry_of answer made dropped end.0, end.1)

abbrev then_dropped : Answer → Option Made → List ℕ → Read Entry
then_dropped answer made bytes = dropped_at bytes >>= λ dropped. then_end answer made dropped.0 dropped.1

abbrev then_made : Answer → List ℕ → Read Entry
then_made answer bytes = made_at bytes >>= λ made. then_dropped answer made.0 made.1

abbrev fields_end : Entry → List Field
fields_end entry = end_fields entry.end

abbrev fields_dropped : Entry → List Field
fields_dropped entry = dropped_fields entry.dropped ++ fields_end entry

abbrev fields_made : Entry → List Field
fields_made entry = made_fields entry.made ++ fields_dropped entry

of-end : (answer : Answer) (made : Option Made) (dropped : List ℕ) (entry : Entry) → Drops answer made dropped entry → (end : End) × IsOfPart end × (entry ≡ entry_of answer made dropped end)
of-end answer made dropped entry also = (entry.end, also.0.0.0, (λ i. entry_of (also.0.0.1 i) (also.0.1 i) (also.1 i) entry.end))

then-end-reads : (answer : Answer) (made : Option Made) (dropped : List ℕ) → Reads (then_end answer made dropped) fields_end (Drops answer made dropped)
then-end-reads answer made dropped =
    matched-reads end_at end_fields IsOfPart (entry_of answer made dropped) fields_end (Drops answer made dropped) (record { same = λ end. refl; there = λ end of. (((of, refl), refl), refl); back = of-end answer made dropped }) end-reads

then-dropped-reads : (answer : Answer) (made : Option Made) → Reads (then_dropped answer made) fields_dropped (Makes answer made)
then-dropped-reads answer made =
    joined-reads dropped_at dropped_fields Any (then_end answer made) fields_end (Makes answer made) (λ e. e.dropped)
    (record { first = dropped-reads; second = λ dropped fit. then-end-reads answer made dropped; of_key = λ e also. tt; some = λ dropped fit. (entry_of answer made dropped deactivates, ((omega arith, tt), (((tt, refl), refl), refl))) })

then-made-reads : (answer : Answer) → Reads (then_made answer) fields_made (Answered answer)
then-made-reads answer =
    joined-reads made_at made_fields Any (then_dropped answer) fields_dropped (Answered answer) (λ e. e.made)
    (record { first = made-reads; second = λ made fit. then-dropped-reads answer made; of_key = λ e also. tt; some = λ made fit. (entry_of answer made [] deactivates, ((omega arith, (omega arith, tt)), ((tt, refl), refl))) })

pub entry-reads : Reads entry_at entry_fields OfPart
unfolding entry_at
entry-reads =
    joined-reads answer_at answer_fields Any then_made fields_made OfPart (λ e. e.answer)
    (record { first = answer-reads; second = λ answer fit. then-made-reads answer; of_key = λ e also. tt; some = λ answer fit. (entry_of answer None [] deactivates, ((omega arith, (omega arith, (omega arith, tt))), (tt, refl))) })

-- ---- tapes

abbrev some_entry : Entry
some_entry = entry_of answers.Start None [] deactivates

some_entry_fits : Fits entry_fields OfPart some_entry
some_entry_fits = ((omega arith, (omega arith, (omega arith, (omega arith, tt)))), tt)

-- Entries that are read with some bytes behind them hold what they may, and the bytes before those are theirs.
pub entries-taken : (entries : List Entry) (own rest : List ℕ) → AreBytes (own ++ rest) → many_at entry_at (length entries) (own ++ rest) ≡ Ok (entries, rest)
    → AllByRecursion IsWhole (flat_map entry_fields entries) × (own ≡ spelled (flat_map entry_fields entries))
entries-taken entries own rest small e =
    let r = many-reads entry_at entry_fields OfPart some_entry some_entry_fits entry-reads (length entries) in
    let t = r.takes (own ++ rest) (entries, rest) small e in
    let bytes : List ℕ = spelled (flat_map entry_fields entries) in
    let long : length own ≡ length bytes = omega (arith, ap length t.1, length-append own rest, length-append bytes rest) in
    (t.0.0, sym (take_at own rest (length own) refl) ∙ ap (take (length own)) t.1 ∙ take_at bytes rest (length own) (sym long))

pub tape-reads : Reads tape_at tape_fields (AllByRecursion OfPart)
unfolding tape_at
tape-reads =
    joined-reads (number_at w32 TAPE_LIMIT) (number_fields w32 TAPE_LIMIT) Any (many_at entry_at) (flat_map entry_fields) (AllByRecursion OfPart) length
    (record {
      first = number-reads w32 TAPE_LIMIT (2 ^ 32) wide32 (omega arith);
      second = λ n fit. many-reads entry_at entry_fields OfPart some_entry some_entry_fits entry-reads n;
      of_key = λ tape also. tt;
      some = λ n fit. (replicate n some_entry, some-many entry_at entry_fields OfPart some_entry some_entry_fits entry-reads n);
    })

no_tape_fits : Fits tape_fields (AllByRecursion OfPart) []
no_tape_fits = ((omega arith, tt), tt)

-- Each entry of each tape is no player's failure.
abbrev pub AreOfParts : List (List Entry) → Type 0
AreOfParts tapes = AllByRecursion (AllByRecursion OfPart) tapes

abbrev many_tapes_at : List ℕ → Read (List (List Entry))
many_tapes_at bytes = number_at w32 PROCESS_LIMIT bytes >>= λ count. many_at tape_at count.0 count.1

abbrev many_tapes_fields : List (List Entry) → List Field
many_tapes_fields tapes = Number w32 PROCESS_LIMIT (length tapes) ∷ flat_map tape_fields tapes

many-tapes-reads : Reads many_tapes_at many_tapes_fields AreOfParts
many-tapes-reads =
    joined-reads (number_at w32 PROCESS_LIMIT) (number_fields w32 PROCESS_LIMIT) Any (many_at tape_at) (flat_map tape_fields) AreOfParts length
    (record {
      first = number-reads w32 PROCESS_LIMIT (2 ^ 32) wide32 (omega arith);
      second = λ n fit. many-reads tape_at tape_fields (AllByRecursion OfPart) [] no_tape_fits tape-reads n;
      of_key = λ tapes also. tt;
      some = λ n fit. (replicate n [], some-many tape_at tape_fields (AllByRecursion OfPart) [] no_tape_fits tape-reads n);
    })

abbrev then_tapes : Unit {0} → List ℕ → Read (List (List Entry))
then_tapes u bytes = many_tapes_at bytes

abbrev begin_of : List (List Entry) → Unit {0}
begin_of tapes = tt

pub tapes-reads : Reads tapes_at inner_fields AreOfParts
unfolding tapes_at
tapes-reads =
    joined-reads (letters_at name) (letters_fields name) Any then_tapes many_tapes_fields AreOfParts begin_of
    (record {
      first = letters-reads name;
      second = λ u fit. agreed-reads many_tapes_at many_tapes_fields AreOfParts many_tapes_fields (AlsoAt AreOfParts begin_of u) (record { there = λ tapes also. (also, refl); back = λ tapes also. also.0; same = λ tapes also. refl }) many-tapes-reads;
      of_key = λ tapes also. tt;
      some = λ u fit. ([], ((omega arith, tt), (tt, refl)));
    })
