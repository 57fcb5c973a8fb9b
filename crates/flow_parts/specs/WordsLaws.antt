-- Words keeps the laws of components.
use Rattle.std.proofs.Common.{◌≡◌, ℕ, ◌<◌, ◌≤◌, Bool, suc, true, false, List, [], ◌∷◌, length, drop, refl, sym, subst, arith, ap, ◌∙◌, nat_lt, cond}
use Rattle.std.specs.Prelude.{slice_range}
use Rattle.std.proofs.lemmas.Bool.Decides.{nat_tests}
use Rattle.std.proofs.lemmas.List.{length-drop}
use Rattle.flow_packet.specs.declared.packet.Kind.{Kind}
use Rattle.flow_packet.specs.declared.packet.Kind.TheVariants.{Normal, Open, Close}
use Rattle.flow_packet.specs.Tree.{Tree, text_of, kind_of}
use Rattle.flow_packet.specs.Hands.{text_at, kind_at}
use Rattle.flow_packet.specs.Edits.{ComesBy}
use Rattle.flow_packet.specs.Held.{Held, next_id, without_packet, with_made}
use Rattle.flow_component.specs.declared.Answer.{Answer}
use Rattle.flow_component.specs.declared.Answer.TheVariants as answers
use Rattle.flow_component.specs.Laws.{Lawful, Outcome, Wishes, Obeys, StaysReady}
use Rattle.flow_component.specs.Alone.{HoldsOnly}
use Rattle.flow_component.specs.Ports.{one_to_one, uses_first, receive_first, send_first}
use Rattle.flow_component.proofs.Roots.{IsAtRoot-made}
use Rattle.flow_component.proofs.Comings.{comes_same, comes_dropped, comes_made}
use Rattle.flow_component.proofs.Lone.{HoldsOnly-without, HoldsOnly-root, HoldsOnly-left, HoldsOnly-came, HoldsOnly-made, HoldsOnly-made_alone, HoldsOnly-text, HoldsOnly-kind}
use Rattle.flow_parts.specs.declared.words.Words.{Words}
use Rattle.flow_parts.specs.declared.words.Words.TheVariants.{Waiting, Splitting}
use Rattle.flow_parts.specs.Text.{run_length, word_start, word_end, is_blank}
use Rattle.flow_parts.specs.Words.{sends_next, takes, goes_on, words_next, WordsReady, IsReadyOn, words_rules}

-- a word ends within its text
run-most-at : (v : Bool) (m n : ℕ) → m ≤ n → cond v 0 (suc m) ≤ suc n
run-most-at true m n h = omega arith
run-most-at false m n h = omega arith

run-most : (xs : List ℕ) → run_length xs ≤ length xs
run-most [] = omega arith
run-most (b ∷ bs) = run-most-at (is_blank b) (run_length bs) (length bs) (run-most bs)

pub end-most : (text : List ℕ) (taken : ℕ) → word_start text taken < length text → word_end text taken ≤ length text
end-most text taken h = omega (arith, run-most (drop (word_start text taken) text), length-drop (word_start text taken) text)

abbrev first_or : Tree → List Tree → Tree
first_or d [] = d
first_or d (t ∷ ts) = t

abbrev IsLawful : Held → Outcome Words → Type 0
IsLawful held outcome = Obeys one_to_one uses_first held outcome × StaysReady words_rules outcome

idle : (old held : Held) → ComesBy old held → held.packets ≡ [] → IsLawful old (Wishes Waiting held receive_first)
idle old held w e = ((w, omega arith), ((λ s. (tt, e)), (λ t s. (tt, HoldsOnly-came held t e s)), (λ text s. (tt, HoldsOnly-made_alone held Normal text e s))))

splitting : (held : Held) (t : Tree) (id end : ℕ) → HoldsOnly held id → held.packets ≡ t ∷ [] → end ≤ length (text_of t) → kind_of t ≡ Normal → IsReadyOn held (Splitting id end)
splitting held t id end h e w k =
    let same : h.packet ≡ t = ap (first_or t) (sym h.holds ∙ e) in
    let text : text_at held.packets id ≡ text_of t = HoldsOnly-text held id h ∙ ap text_of same in
    let kind : kind_at held.packets id ≡ kind_of t = HoldsOnly-kind held id h ∙ ap kind_of same in
    (h, rw text w, kind ∙ k)

sent_next : (held : Held) (id taken : ℕ) → HoldsOnly held id → kind_at held.packets id ≡ Normal → IsLawful held (sends_next held id taken)
sent_next held id taken h k = by (nat_lt (word_start text taken) (length text)) refl
  where
    text : List ℕ
    text = text_at held.packets id

    by : (b : Bool) → nat_lt (word_start text taken) (length text) ≡ b
        → IsLawful held (cond b (Wishes (Splitting id (word_end text taken)) (with_made held Normal (slice_range text (word_start text taken) (word_end text taken))) (send_first (next_id held))) (Wishes Waiting (without_packet held id) receive_first))
    by true t =
        let piece = slice_range text (word_start text taken) (word_end text taken) in
        let new = with_made held Normal piece in
        let e : (without_packet new (next_id held)).packets ≡ h.packet ∷ [] = HoldsOnly-made held id Normal piece h in
        let l : word_start text taken < length text = grind (arith, nat_tests) in (
          (comes_made held Normal piece (omega (arith, ap length h.holds)), (refl, IsAtRoot-made held Normal piece)),
          λ s. splitting (without_packet new (next_id held)) h.packet id (word_end text taken) (HoldsOnly-left held id Normal piece h s) e (rw (← HoldsOnly-text held id h) (end-most text taken l)) (sym (HoldsOnly-kind held id h) ∙ k),
        )
    by false t = idle held (without_packet held id) (comes_dropped held id (HoldsOnly-root held id h)) (HoldsOnly-without held id h)

taken : (held : Held) (id : ℕ) (kind : Kind) → HoldsOnly held id → kind_at held.packets id ≡ kind → IsLawful held (takes held id kind)
taken held id Normal h k = sent_next held id 0 h k
taken held id Open h k = ((comes_same held, (refl, HoldsOnly-root held id h)), λ s. HoldsOnly-without held id h)
taken held id Close h k = ((comes_same held, (refl, HoldsOnly-root held id h)), λ s. HoldsOnly-without held id h)

went_on : (held : Held) (component : Words) → IsReadyOn held component → IsLawful held (goes_on held component)
went_on held Waiting r = idle held held (comes_same held) r
went_on held (Splitting id taken) r = sent_next held id taken r.0 r.2

lawful : (component : Words) (held : Held) (answer : Answer) → WordsReady component held answer → IsLawful held (words_next component held answer)
lawful component held answers.Start r = idle held held (comes_same held) r.1
lawful component held (answers.Got id) r = taken held id (kind_at held.packets id) r.1 refl
lawful component held answers.End r = ((comes_same held, tt), λ s. (tt, r.1))
lawful component held answers.Sent r = went_on held component r
lawful component held (answers.Level n) r = absurd r

-- It keeps the laws of components.
pub words_lawful : Lawful words_rules
words_lawful = record {
  obeys = λ component held answer outcome r is. subst (Obeys one_to_one uses_first held) (sym is) (lawful component held answer r).0;
  stays_ready = λ component held answer outcome r is. subst (StaysReady words_rules) (sym is) (lawful component held answer r).1;
  steady = λ component held answer outcome is. record { shape = refl; outputs = refl };
  has_outcome = λ component held answer _. (words_next component held answer, refl);
}
