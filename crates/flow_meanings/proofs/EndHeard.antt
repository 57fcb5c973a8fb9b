-- A component with one input that has come to its end, once it was started, has heard the end of that input.
use Rattle.std.proofs.Common.{◌≡◌, ◌≢◌, ℕ, List, [], ◌∷◌, length, refl, sym, ap, ◌∙◌, subst, ◌⊎◌, inl, inr, arith, nat_le, nat_lt, Bool, true, false, cond, ◌+◌, ◌-◌, ◌==◌, ◌++◌, zero, suc, Option, Some, None}
use Rattle.flow_packet.specs.Held.{Held, without_packet, with_made, next_id}
use Rattle.flow_packet.specs.Hands.{text_at, kind_at}
use Rattle.flow_packet.specs.declared.packet.Kind.{Kind}
use Rattle.flow_packet.specs.declared.packet.Kind.TheVariants.{Normal, Open, Close}
use Rattle.flow_component.specs.declared.Wish.{Wish}
use Rattle.flow_component.specs.declared.Wish.TheVariants as wishes
use Rattle.flow_component.specs.declared.Fail.TheVariants.{TreeDepth}
use Rattle.flow_component.specs.Laws.{Rules, Lawful, Outcome, Wishes, Fails, IsAllowed}
use Rattle.flow_component.specs.Ports.{receive_first, send_first}
use Rattle.flow_component.specs.Happenings.{Happening, Started, Received, Ended, Sent, Learned, answer_of}
use Rattle.flow_component.specs.Runs.{Poise, fresh, Steps, Runs, EndedRun, IsEnd, HeardEnd}
use Rattle.flow_parts.specs.WriteLines.{write_lines_rules}
use Rattle.flow_parts.specs.WriteLinesLaws.{write_lines_lawful}
use Rattle.flow_parts.specs.declared.words.Words.{Words}
use Rattle.flow_parts.specs.declared.words.Words.TheVariants as words_parts
use Rattle.flow_parts.specs.Text.{word_start, word_end}
use Rattle.flow_parts.specs.Words.{sends_piece, takes, goes_on, words_rules}
use Rattle.flow_parts.specs.WordsLaws.{words_lawful}
use Rattle.flow_parts.specs.Brackets as brackets
use Rattle.flow_parts.specs.Brackets.{turns, bracket_of, brackets_rules}
use Rattle.flow_parts.specs.BracketsLaws.{brackets_lawful}
use Rattle.flow_parts.specs.declared.fill.FillPlace.{FillPlace}
use Rattle.flow_parts.specs.declared.fill.FillPlace.TheVariants as places
use Rattle.flow_parts.specs.FillState.{FillState}
use Rattle.flow_parts.specs.Fill as fill
use Rattle.flow_parts.specs.Fill.{fill_rules}
use Rattle.flow_parts.specs.FillLaws.{fill_lawful}
use Rattle.flow_parts.specs.Meanings.{fresh_fill}
use Rattle.flow_parts.specs.Count as count
use Rattle.flow_parts.specs.Count.{CountState, count_rules}
use Rattle.flow_parts.specs.CountLaws.{count_lawful}
use Rattle.flow_parts.specs.Meanings.{fresh_count}
use Rattle.flow_limits.specs.declared.TheConstants.{TEXT_LIMIT}
use Rattle.flow_component.specs.declared.Fail.TheVariants.{TextLimit}
use Rattle.std.specs.Str.{bytes_eq}
use Rattle.flow_parts.specs.declared.tally.TallyPlace.{TallyPlace}
use Rattle.flow_parts.specs.declared.tally.TallyPlace.TheVariants as tally_places
use Rattle.flow_parts.specs.TallyState.{TallyState}
use Rattle.flow_parts.specs.Tally as tally
use Rattle.flow_parts.specs.Tally.{tally_rules}
use Rattle.flow_parts.specs.TallyLaws.{tally_lawful}
use Rattle.flow_parts.specs.Meanings.{fresh_tally}
use Rattle.flow_packet.specs.Tree.{Tree, id_of}
use Rattle.flow_packet.specs.Hands.{chain_of_root, height_at}
use Rattle.flow_streams.specs.declared.copy.CopyPlace.{CopyPlace}
use Rattle.flow_streams.specs.declared.copy.CopyPlace.TheVariants as copy_places
use Rattle.flow_streams.specs.Copy as copy
use Rattle.flow_streams.specs.Copy.{CopyState, copy_rules}
use Rattle.flow_streams.specs.CopyLaws.{copy_lawful}
use Rattle.flow_streams.specs.declared.load_balance.LoadPlace.{LoadPlace}
use Rattle.flow_streams.specs.declared.load_balance.LoadPlace.TheVariants as load_places
use Rattle.flow_streams.specs.LoadBalance as load
use Rattle.flow_streams.specs.LoadBalance.{LoadState, load_rules}
use Rattle.flow_streams.specs.LoadBalanceLaws.{load_lawful}
use Rattle.flow_streams.specs.declared.bundle.Bundle.{Bundle}
use Rattle.flow_streams.specs.declared.bundle.Bundle.TheVariants as bundle_parts
use Rattle.flow_streams.specs.Bundle as bundle
use Rattle.flow_streams.specs.Bundle.{items, bundle_rules}
use Rattle.flow_streams.specs.BundleLaws.{bundle_lawful}
use Rattle.flow_streams.specs.declared.unbundle.Unbundle.{Unbundle}
use Rattle.flow_streams.specs.declared.unbundle.Unbundle.TheVariants as unbundle_parts
use Rattle.flow_streams.specs.Unbundle as unbundle
use Rattle.flow_streams.specs.Unbundle.{unbundle_rules}
use Rattle.flow_streams.specs.UnbundleLaws.{unbundle_lawful}
use Rattle.flow_streams.specs.Discard.{discard_rules}
use Rattle.flow_streams.specs.DiscardLaws.{discard_lawful}
use Rattle.flow_streams.specs.Hoard.{hoard_rules}
use Rattle.flow_streams.specs.HoardLaws.{hoard_lawful}
use Rattle.flow_streams.specs.Passthru.{passes, passthru_rules}
use Rattle.flow_streams.specs.PassthruLaws.{passthru_lawful}

-- where only an end leads to a deactivation, or what is on the way to one since an end
module _ {K : Type 0} (rules : Rules K) (one : (component : K) → (rules.shape component).inputs ≡ 1)
    (lawful : Lawful rules)
    (Leaves : K → Type 0)
    (start : (p : Poise K) (q : Poise K) → Steps rules p Started q → (q.wish ≡ wishes.Deactivate) ⊎ Leaves q.component → ⊥)
    (got : (p : Poise K) (port : ℕ) (t : _) (q : Poise K) → Steps rules p (Received port t) q → (q.wish ≡ wishes.Deactivate) ⊎ Leaves q.component → ⊥)
    (sent : (p : Poise K) (port : ℕ) (t : _) (q : Poise K) → Steps rules p (Sent port t) q → (q.wish ≡ wishes.Deactivate) ⊎ Leaves q.component → Leaves p.component)
    (learned : (p : Poise K) (port level : ℕ) (q : Poise K) → Steps rules p (Learned port level) q → (q.wish ≡ wishes.Deactivate) ⊎ Leaves q.component → ⊥) where
  -- it receives from its one input alone
  abbrev FromFirst : Wish → Type 0
  FromFirst (wishes.Receive port) = port.0 ≡ 0
  FromFirst wish = Unit {0}

  from-first : (component : K) (held : Held) (wish : Wish) → IsAllowed (rules.shape component) (rules.uses component) held wish → FromFirst wish
  from-first component held (wishes.Receive port) a = omega (arith, a, one component)
  from-first component held wish a = tt

  stays-first : (p : Poise K) (e : Happening) (q : Poise K) → Steps rules p e q → FromFirst q.wish
  stays-first p e q s = from-first p.component q.held q.wish (lawful.obeys p.component s.held (answer_of e) (Wishes q.component q.held q.wish) s.is_ready s.comes_to).1

  heard-step : (p : Poise K) (e : Happening) (q : Poise K) → FromFirst p.wish → Steps rules p e q → (q.wish ≡ wishes.Deactivate) ⊎ Leaves q.component → IsEnd 0 e ⊎ Leaves p.component
  heard-step p Started q a s l = absurd (start p q s l)
  heard-step p (Received port t) q a s l = absurd (got p port t q s l)
  heard-step p (Ended port) q a s l = (let z : port ≡ 0 = rw s.grants.0 at a in inl z)
  heard-step p (Sent port t) q a s l = inr (sent p port t q s l)
  heard-step p (Learned port level) q a s l = absurd (learned p port level q s l)

  heard-run : (es : List Happening) (p q : Poise K) → FromFirst p.wish → Runs rules p es q → q.wish ≡ wishes.Deactivate → es ≢ [] → HeardEnd 0 es ⊎ Leaves p.component
  heard-run [] p q a r d some = absurd (some refl)
  heard-run (e ∷ []) p q a r d some =
      let w : r.0.wish ≡ wishes.Deactivate = ap (λ (u : Poise K). u.wish) (sym r.2) ∙ d in
      elim (heard-step p e r.0 a r.1 (inl w)) [ inl h ↦ inl (inl h) | inr l ↦ inr l ]
  heard-run (e ∷ f ∷ es) p q a r d some =
      let m = r.0 in
      elim (heard-run (f ∷ es) m q (stays-first p e m r.1) r.2 d (λ h. cc)) [
        | inl h ↦ inl (inr h)
        | inr l ↦ elim (heard-step p e m a r.1 (inr l)) [ inl h ↦ inl (inl h) | inr k ↦ inr k ]
      ]

  pub end-heard : (component : K) (told : List Happening) → EndedRun rules component told → (Leaves component → ⊥) → told ≢ [] → HeardEnd 0 told
  end-heard component told run not some = elim (heard-run told (fresh component run.maker) run.last tt run.runs run.idle some) [ inl h ↦ h | inr l ↦ absurd (not l) ]

-- Nothing of it leaves before an end.
abbrev pub Never : {K : Type 0} → K → Type 0
Never component = ⊥

-- A WriteLines that has run and ended has heard the end of its input.
pub write_lines-hears : (bytes : List ℕ) (told : List Happening) → EndedRun write_lines_rules bytes told → told ≢ [] → HeardEnd 0 told
write_lines-hears bytes told run some =
    end-heard write_lines_rules (λ _. refl) write_lines_lawful Never
    (λ p q s l. elim l [ inl d ↦ (let c : Wishes q.component q.held q.wish ≡ Wishes p.component s.held receive_first = s.comes_to in cc) | inr n ↦ n ])
    (λ p port t q s l. elim l [ inl d ↦ (let c = s.comes_to in let w : q.wish ≡ receive_first = cc in cc) | inr n ↦ n ])
    (λ p port t q s l. elim l [ inl d ↦ (let c : Wishes q.component q.held q.wish ≡ Wishes p.component s.held receive_first = s.comes_to in cc) | inr n ↦ n ])
    (λ p port level q s l. s.is_ready) bytes told run (λ n. n) some

-- So has a Passthru.
pub passthru-hears : {K : Type 0} (component : K) (told : List Happening) → EndedRun passthru_rules component told → told ≢ [] → HeardEnd 0 told
passthru-hears {K} component told run some =
    end-heard {K = K} passthru_rules (λ _. refl) passthru_lawful Never
    (λ p q s l. elim l [ inl d ↦ (let c : Wishes q.component q.held q.wish ≡ Wishes p.component s.held receive_first = s.comes_to in cc) | inr n ↦ n ])
    (λ p port t q s l. elim l [ inl d ↦ (let c = s.comes_to in let w : q.wish ≡ passes (answer_of (Received port t)) = cc in cc) | inr n ↦ n ])
    (λ p port t q s l. elim l [ inl d ↦ (let c : Wishes q.component q.held q.wish ≡ Wishes p.component s.held receive_first = s.comes_to in cc) | inr n ↦ n ])
    (λ p port level q s l. s.is_ready) component told run (λ n. n) some

-- a Discard and a Hoard
pub discard-hears : {K : Type 0} (component : K) (told : List Happening) → EndedRun discard_rules component told → told ≢ [] → HeardEnd 0 told
discard-hears {K} component told run some =
    end-heard {K = K} discard_rules (λ _. refl) discard_lawful Never
    (λ p q s l. elim l [ inl d ↦ (let c : Wishes q.component q.held q.wish ≡ Wishes p.component s.held receive_first = s.comes_to in cc) | inr n ↦ n ])
    (λ p port t q s l. elim l [ inl d ↦ (let c : Wishes q.component q.held q.wish ≡ Wishes p.component (without_packet s.held (Rattle.flow_packet.specs.Tree.id_of t)) receive_first = s.comes_to in cc) | inr n ↦ n ])
    (λ p port t q s l. elim l [ inl d ↦ (let c : Wishes q.component q.held q.wish ≡ Wishes p.component s.held receive_first = s.comes_to in cc) | inr n ↦ n ])
    (λ p port level q s l. s.is_ready) component told run (λ n. n) some

-- So has a Hoard.
pub hoard-hears : {K : Type 0} (component : K) (told : List Happening) → EndedRun hoard_rules component told → told ≢ [] → HeardEnd 0 told
hoard-hears {K} component told run some =
    end-heard {K = K} hoard_rules (λ _. refl) hoard_lawful Never
    (λ p q s l. elim l [ inl d ↦ (let c : Wishes q.component q.held q.wish ≡ Wishes p.component s.held receive_first = s.comes_to in cc) | inr n ↦ n ])
    (λ p port t q s l. elim l [ inl d ↦ (let c : Wishes q.component q.held q.wish ≡ Wishes p.component s.held receive_first = s.comes_to in cc) | inr n ↦ n ])
    (λ p port t q s l. elim l [ inl d ↦ (let c : Wishes q.component q.held q.wish ≡ Wishes p.component s.held receive_first = s.comes_to in cc) | inr n ↦ n ])
    (λ p port level q s l. s.is_ready) component told run (λ n. n) some

-- The outcome goes on: it doesn't deactivate.
abbrev pub GoesOn : {K : Type 0} → Outcome K → Type 0
GoesOn (Wishes component held wish) = wish ≡ wishes.Deactivate → ⊥
GoesOn (Fails component held cause) = Unit {0}

words-piece : (held : Held) (id : ℕ) (text : List ℕ) (taken : ℕ) → GoesOn (sends_piece held id text taken)
words-piece held id text taken = by (nat_lt (word_start text taken) (length text))
  where
    by : (b : Bool) → GoesOn (cond b (Wishes (words_parts.Splitting id (word_end text taken)) (with_made held Normal (Rattle.std.specs.Prelude.slice_range text (word_start text taken) (word_end text taken))) (send_first (next_id held))) (Wishes words_parts.Waiting (without_packet held id) receive_first))
    by true = λ d. cc
    by false = λ d. cc

words-takes : (held : Held) (id : ℕ) (kind : Kind) → GoesOn (takes held id kind)
words-takes held id Normal = words-piece held id (text_at held.packets id) 0
words-takes held id Open = λ d. cc
words-takes held id Close = λ d. cc

words-goes : (held : Held) (component : Words) → GoesOn (goes_on held component)
words-goes held words_parts.Waiting = λ d. cc
words-goes held (words_parts.Splitting id taken) = words-piece held id (text_at held.packets id) taken

-- So has a Words.
pub words-hears : (component : Words) (told : List Happening) → EndedRun words_rules component told → told ≢ [] → HeardEnd 0 told
words-hears component told run some =
    end-heard words_rules (λ _. refl) words_lawful Never
    (λ p q s l. elim l [ inl d ↦ (let c : Wishes q.component q.held q.wish ≡ Wishes words_parts.Waiting s.held receive_first = s.comes_to in cc) | inr n ↦ n ])
    (λ p port t q s l. elim l [ inl d ↦ subst GoesOn (sym s.comes_to) (words-takes s.held (Rattle.flow_packet.specs.Tree.id_of t) (kind_at s.held.packets (Rattle.flow_packet.specs.Tree.id_of t))) d | inr n ↦ n ])
    (λ p port t q s l. elim l [ inl d ↦ subst GoesOn (sym s.comes_to) (words-goes s.held p.component) d | inr n ↦ n ])
    (λ p port level q s l. s.is_ready) component told run (λ n. n) some

brackets-turn : {K : Type 0} (component : K) (held : Held) (id : ℕ) (text : List ℕ) (kind : Option Kind) → GoesOn (turns component held id text kind)
brackets-turn component held id text None = λ d. cc
brackets-turn component held id text (Some kind) = λ d. cc

brackets-take : {K : Type 0} (component : K) (held : Held) (id : ℕ) (kind : Kind) → GoesOn (brackets.takes component held id kind)
brackets-take component held id Normal = brackets-turn component held id (text_at held.packets id) (bracket_of (text_at held.packets id))
brackets-take component held id Open = λ d. cc
brackets-take component held id Close = λ d. cc

-- So has a Brackets.
pub brackets-hears : {K : Type 0} (component : K) (told : List Happening) → EndedRun brackets_rules component told → told ≢ [] → HeardEnd 0 told
brackets-hears {K} component told run some =
    end-heard {K = K} brackets_rules (λ _. refl) brackets_lawful Never
    (λ p q s l. elim l [ inl d ↦ subst GoesOn (sym s.comes_to) (λ e. cc) d | inr n ↦ n ])
    (λ p port t q s l. elim l [ inl d ↦ subst GoesOn (sym s.comes_to) (brackets-take p.component s.held (Rattle.flow_packet.specs.Tree.id_of t) (kind_at s.held.packets (Rattle.flow_packet.specs.Tree.id_of t))) d | inr n ↦ n ])
    (λ p port t q s l. elim l [ inl d ↦ subst GoesOn (sym s.comes_to) (λ e. cc) d | inr n ↦ n ])
    (λ p port level q s l. s.is_ready) component told run (λ n. n) some

-- A Fill leaves once its last line was sent.
abbrev IsLeaving : FillState → Type 0
IsLeaving state = state.place ≡ places.Leaving

abbrev Stays : Outcome FillState → Type 0
Stays (Wishes state held wish) = (wish ≡ wishes.Deactivate) ⊎ IsLeaving state → ⊥
Stays (Fails state held cause) = Unit {0}

stays-waiting : (state : FillState) (wish : Wish) → state.place ≡ places.Waiting → (wish ≡ wishes.Deactivate → ⊥) → (wish ≡ wishes.Deactivate) ⊎ IsLeaving state → ⊥
stays-waiting state wish w n (inl d) = n d
stays-waiting state wish w n (inr l) = let h : places.Waiting ≡ places.Leaving = sym w ∙ l in cc

fill-word : (state : FillState) (held : Held) (line word : List ℕ) → state.place ≡ places.Waiting → Stays (fill.word_after state held line word)
fill-word state held [] word w = stays-waiting (record state { line = word }) receive_first w (λ d. cc)
fill-word state held (c ∷ cs) word w = by (nat_le (length (c ∷ cs) + 1 + length word) state.size)
  where
    by : (b : Bool) → Stays (cond b (Wishes (record state { line = (c ∷ cs) ++ 32 ∷ word }) held receive_first) (fill.line_sent state held word places.Waiting))
    by true = stays-waiting (record state { line = (c ∷ cs) ++ 32 ∷ word }) receive_first w (λ d. cc)
    by false = stays-waiting (record state { line = word; place = places.Waiting }) (send_first (next_id held)) refl (λ d. cc)

fill-text : (state : FillState) (held : Held) (text : List ℕ) → state.place ≡ places.Waiting → Stays (fill.word_comes state held text)
fill-text state held [] w = stays-waiting state receive_first w (λ d. cc)
fill-text state held (b ∷ bs) w = fill-word state held state.line (b ∷ bs) w

fill-bracket : (state : FillState) (held : Held) (id : ℕ) (line : List ℕ) → state.place ≡ places.Waiting → Stays (fill.bracket_comes state held id line)
fill-bracket state held id [] w = stays-waiting state (send_first id) w (λ d. cc)
fill-bracket state held id (c ∷ cs) w = λ h. passing-stays id h
  where
    passing-stays : (id : ℕ) → (send_first (next_id held) ≡ wishes.Deactivate) ⊎ (places.Passing id ≡ places.Leaving) → ⊥
    passing-stays id (inl d) = cc
    passing-stays id (inr l) = cc

fill-packet : (state : FillState) (held : Held) (id : ℕ) (kind : Kind) → state.place ≡ places.Waiting → Stays (fill.packet_comes state held id kind)
fill-packet state held id Normal w = fill-text state (without_packet held id) (text_at held.packets id) w
fill-packet state held id Open w = fill-bracket state held id state.line w
fill-packet state held id Close w = fill-bracket state held id state.line w

abbrev Left : FillState → Outcome FillState → Type 0
Left old (Wishes state held wish) = (wish ≡ wishes.Deactivate) ⊎ IsLeaving state → IsLeaving old
Left old (Fails state held cause) = Unit {0}

fill-goes : (state : FillState) (held : Held) (place : FillPlace) → state.place ≡ place → Left state (fill.goes_on state held place)
fill-goes state held places.Waiting w = λ h. elim h [ inl d ↦ absurd (cc) | inr l ↦ l ]
fill-goes state held (places.Passing id) w = λ h. elim h [ inl d ↦ absurd (cc) | inr l ↦ absurd (let k : places.Waiting ≡ places.Leaving = l in cc) ]
fill-goes state held places.Leaving w = λ h. w

-- So has a Fill.
pub fill-hears : (size : ℕ) (told : List Happening) → EndedRun fill_rules (fresh_fill size) told → told ≢ [] → HeardEnd 0 told
fill-hears size told run some =
    end-heard fill_rules (λ _. refl) fill_lawful IsLeaving
    (λ p q s l. subst Stays (sym s.comes_to) (stays-waiting p.component receive_first s.is_ready.0 (λ d. cc)) l)
    (λ p port t q s l. subst Stays (sym s.comes_to) (fill-packet p.component s.held (Rattle.flow_packet.specs.Tree.id_of t) (kind_at s.held.packets (Rattle.flow_packet.specs.Tree.id_of t)) s.is_ready.0) l)
    (λ p port t q s l. subst (Left p.component) (sym s.comes_to) (fill-goes p.component s.held p.component.place refl) l)
    (λ p port level q s l. s.is_ready) (fresh_fill size) told run (λ l. let h : places.Waiting ≡ places.Leaving = l in cc) some

-- Copy

copy-goes : (state : CopyState) (held : Held) (id output : ℕ) → GoesOn (copy.copies state held id output)
copy-goes state held id output = by (nat_lt (output + 1) state.count)
  where
    by : (b : Bool) → GoesOn (cond b (Wishes (record state { place = copy_places.Copying id (output + 1) }) (with_made held (kind_at held.packets id) (text_at held.packets id)) (copy.send_at output (next_id held))) (Wishes (record state { place = copy_places.Waiting }) held (copy.send_at output id)))
    by true = λ d. cc
    by false = λ d. cc

copy-on : (state : CopyState) (held : Held) (place : CopyPlace) → GoesOn (copy.goes_on state held place)
copy-on state held copy_places.Waiting = λ d. cc
copy-on state held (copy_places.Copying id output) = copy-goes state held id output

-- So has a Copy.
pub copy-hears : (component : CopyState) (told : List Happening) → EndedRun copy_rules component told → told ≢ [] → HeardEnd 0 told
copy-hears component told run some =
    end-heard copy_rules (λ _. refl) copy_lawful Never
    (λ p q s l. elim l [ inl d ↦ subst GoesOn (sym s.comes_to) (λ e. cc) d | inr n ↦ n ])
    (λ p port t q s l. elim l [ inl d ↦ subst GoesOn (sym s.comes_to) (copy-goes p.component s.held (id_of t) 0) d | inr n ↦ n ])
    (λ p port t q s l. elim l [ inl d ↦ subst GoesOn (sym s.comes_to) (copy-on p.component s.held p.component.place) d | inr n ↦ n ])
    (λ p port level q s l. s.is_ready) component told run (λ n. n) some

-- Count, which leaves once its number was sent

abbrev IsTelling : CountState → Type 0
IsTelling state = state.leaving ≡ true

abbrev Counts : CountState → Outcome CountState → Type 0
Counts old (Wishes state held wish) = (wish ≡ wishes.Deactivate) ⊎ IsTelling state → IsTelling old
Counts old (Fails state held cause) = Unit {0}

count-goes : (connected : Bool) (state : CountState) (held : Held) (id : ℕ) → Counts state (count.passes_on connected state held id)
count-goes true state held id = λ h. elim h [ inl d ↦ absurd (cc) | inr l ↦ l ]
count-goes false state held id = λ h. elim h [ inl d ↦ absurd (cc) | inr l ↦ l ]

count-on : (leaving : Bool) (state : CountState) (held : Held) → state.leaving ≡ leaving → Counts state (count.goes_on leaving state held)
count-on true state held is = λ h. is
count-on false state held is = λ h. elim h [ inl d ↦ absurd (cc) | inr l ↦ l ]

not-telling : (state : CountState) → state.leaving ≡ false → IsTelling state → ⊥
not-telling state f l = let h : false ≡ true = sym f ∙ l in cc

-- So has a Count.
pub count-hears : (connected : Bool) (told : List Happening) → EndedRun count_rules (fresh_count connected) told → told ≢ [] → HeardEnd 0 told
count-hears connected told run some =
    end-heard count_rules (λ _. refl) count_lawful IsTelling
    (λ p q s l. not-telling p.component s.is_ready.0 (subst (Counts p.component) (sym s.comes_to) (λ h. elim h [ inl d ↦ absurd (cc) | inr k ↦ k ]) l))
    (λ p port t q s l. not-telling p.component s.is_ready.0 (subst (Counts p.component) (sym s.comes_to) (count-goes p.component.connected (record p.component { number = count.one_more (kind_at s.held.packets (id_of t)) p.component.number }) s.held (id_of t)) l))
    (λ p port t q s l. subst (Counts p.component) (sym s.comes_to) (count-on p.component.leaving p.component s.held refl) l)
    (λ p port level q s l. s.is_ready) (fresh_count connected) told run (λ l. let h : false ≡ true = l in cc) some

-- Tally, which leaves once its last row was told

abbrev IsTallied : TallyState → Type 0
IsTallied state = state.place ≡ tally_places.Leaving

abbrev Tallies : Outcome TallyState → Type 0
Tallies (Wishes state held wish) = (wish ≡ wishes.Deactivate) ⊎ IsTallied state → ⊥
Tallies (Fails state held cause) = Unit {0}

tally-waiting : (state : TallyState) (wish : Wish) → state.place ≡ tally_places.Waiting → (wish ≡ wishes.Deactivate → ⊥) → (wish ≡ wishes.Deactivate) ⊎ IsTallied state → ⊥
tally-waiting state wish w n (inl d) = n d
tally-waiting state wish w n (inr l) = let h : tally_places.Waiting ≡ tally_places.Leaving = sym w ∙ l in cc

-- a row is told, and it doesn't leave then
tally-told : (state next : TallyState) (held left : Held) (line : List ℕ) (fits : Bool) → (IsTallied next → ⊥) → Tallies (cond fits (Wishes next (with_made left Normal line) (send_first (next_id left))) (Fails state held (TextLimit (length line))))
tally-told state next held left line true n = λ h. elim h [ inl d ↦ absurd (cc) | inr l ↦ n l ]
tally-told state next held left line false n = tt

tally-text : (state : TallyState) (held : Held) (id times : ℕ) (text : List ℕ) → state.place ≡ tally_places.Waiting → Tallies (tally.text_comes state held id times text)
tally-text state held id zero text w = tally-waiting (record state { times = 1; text = text }) receive_first w (λ d. cc)
tally-text state held id (suc n) text w = by (bytes_eq text state.text)
  where
    by : (b : Bool) → Tallies (cond b (Wishes (record state { times = tally.one_more_time (suc n) }) (without_packet held id) receive_first) (tally.row_told state held (without_packet held id) (tally.tally_line (suc n) state.text) 1 text tally_places.Waiting))
    by true = tally-waiting (record state { times = tally.one_more_time (suc n) }) receive_first w (λ d. cc)
    by false = tally-told state (record { times = 1; text = text; place = tally_places.Waiting }) held (without_packet held id) (tally.tally_line (suc n) state.text) (nat_le (length (tally.tally_line (suc n) state.text)) TEXT_LIMIT) (λ l. let h : tally_places.Waiting ≡ tally_places.Leaving = l in cc)

tally-mark : (state : TallyState) (held : Held) (id times : ℕ) → state.place ≡ tally_places.Waiting → Tallies (tally.mark_comes state held id times)
tally-mark state held id zero w = tally-waiting state (send_first id) w (λ d. cc)
tally-mark state held id (suc n) w =
    tally-told state (record { times = 0; text = []; place = tally_places.Passing id }) held held (tally.tally_line (suc n) state.text) (nat_le (length (tally.tally_line (suc n) state.text)) TEXT_LIMIT) (λ l. let h : tally_places.Passing id ≡ tally_places.Leaving = l in cc)

tally-packet : (state : TallyState) (held : Held) (id : ℕ) (kind : Kind) → state.place ≡ tally_places.Waiting → Tallies (tally.one_comes state held id kind)
tally-packet state held id Normal w = tally-text state held id state.times (text_at held.packets id) w
tally-packet state held id Open w = tally-mark state held id state.times w
tally-packet state held id Close w = tally-mark state held id state.times w

abbrev TallyLeft : TallyState → Outcome TallyState → Type 0
TallyLeft old (Wishes state held wish) = (wish ≡ wishes.Deactivate) ⊎ IsTallied state → IsTallied old
TallyLeft old (Fails state held cause) = Unit {0}

tally-goes : (state : TallyState) (held : Held) (place : TallyPlace) → state.place ≡ place → TallyLeft state (tally.goes_on state held place)
tally-goes state held tally_places.Waiting w = λ h. elim h [ inl d ↦ absurd (cc) | inr l ↦ l ]
tally-goes state held (tally_places.Passing id) w = λ h. elim h [ inl d ↦ absurd (cc) | inr l ↦ absurd (let k : tally_places.Waiting ≡ tally_places.Leaving = l in cc) ]
tally-goes state held tally_places.Leaving w = λ h. w

-- So has a Tally.
pub tally-hears : (told : List Happening) → EndedRun tally_rules fresh_tally told → told ≢ [] → HeardEnd 0 told
tally-hears told run some =
    end-heard tally_rules (λ _. refl) tally_lawful IsTallied
    (λ p q s l. subst Tallies (sym s.comes_to) (tally-waiting p.component receive_first s.is_ready.0 (λ d. cc)) l)
    (λ p port t q s l. subst Tallies (sym s.comes_to) (tally-packet p.component s.held (id_of t) (kind_at s.held.packets (id_of t)) s.is_ready.0) l)
    (λ p port t q s l. subst (TallyLeft p.component) (sym s.comes_to) (tally-goes p.component s.held p.component.place refl) l)
    (λ p port level q s l. s.is_ready) fresh_tally told run (λ l. let h : tally_places.Waiting ≡ tally_places.Leaving = l in cc) some

-- LoadBalance

load-asks : (state : LoadState) (held : Held) (id output least : ℕ) → GoesOn (load.asks_on state held id output least)
load-asks state held id output least = by (nat_lt (output + 1) state.count)
  where
    by : (b : Bool) → GoesOn (cond b (Wishes (record state { place = load_places.Asking id (output + 1) least }) held (load.level_at (output + 1))) (Wishes (record state { place = load_places.Waiting }) held (load.send_at state.chosen id)))
    by true = λ d. cc
    by false = λ d. cc

load-weighs : (state : LoadState) (held : Held) (id output least level : ℕ) → GoesOn (load.weighs state held id output least level)
load-weighs state held id output least level = by (nat_lt level least)
  where
    by : (b : Bool) → GoesOn (cond b (load.asks_on (record state { chosen = output }) held id output level) (load.asks_on state held id output least))
    by true = load-asks (record state { chosen = output }) held id output level
    by false = load-asks state held id output least

load-learns : (state : LoadState) (held : Held) (place : LoadPlace) (level : ℕ) → load.IsAsking state held place → GoesOn (load.learns state held place level)
load-learns state held load_places.Waiting level a = absurd a
load-learns state held (load_places.Asking id output least) level a = load-weighs state held id output least level

load-comes : (state : LoadState) (held : Held) (id depth : ℕ) → GoesOn (load.comes_at state held id depth)
load-comes state held id zero = λ d. cc
load-comes state held id (suc outer) = λ d. cc

-- So has a LoadBalance.
pub load-hears : (component : LoadState) (told : List Happening) → EndedRun load_rules component told → told ≢ [] → HeardEnd 0 told
load-hears component told run some =
    end-heard load_rules (λ _. refl) load_lawful Never
    (λ p q s l. elim l [ inl d ↦ subst GoesOn (sym s.comes_to) (λ e. cc) d | inr n ↦ n ])
    (λ p port t q s l. elim l [ inl d ↦ subst GoesOn (sym s.comes_to) (load-comes (record p.component { depth = load.depth_after (kind_at s.held.packets (id_of t)) p.component.depth }) s.held (id_of t) p.component.depth) d | inr n ↦ n ])
    (λ p port t q s l. elim l [ inl d ↦ subst GoesOn (sym s.comes_to) (λ e. cc) d | inr n ↦ n ])
    (λ p port level q s l. elim l [ inl d ↦ subst GoesOn (sym s.comes_to) (load-learns p.component s.held p.component.place level s.is_ready.1) d | inr n ↦ n ])
    component told run (λ n. n) some

-- Bundle

bundle-gathers : (component : Bundle) (held : Held) (id packet depth : ℕ) → GoesOn (bundle.gathers component held id packet depth)
bundle-gathers component held id packet depth = by (height_at held.packets packet == 16)
  where
    by : (b : Bool) → GoesOn (cond b (Fails component held TreeDepth) (Wishes (bundle_parts.Inside id depth) (record held { packets = Rattle.flow_packet.specs.Hands.attached held.packets id items packet }) receive_first))
    by true = tt
    by false = λ d. cc

bundle-takes : (component : Bundle) (held : Held) (id : ℕ) (kind : Kind) → GoesOn (bundle.bundles component held id kind)
bundle-takes bundle_parts.Outside held id Normal = λ d. cc
bundle-takes bundle_parts.Outside held id Open = λ d. cc
bundle-takes bundle_parts.Outside held id Close = λ d. cc
bundle-takes (bundle_parts.Inside id depth) held packet Normal = bundle-gathers (bundle_parts.Inside id depth) held id packet depth
bundle-takes (bundle_parts.Inside id depth) held packet Open = bundle-gathers (bundle_parts.Inside id depth) held id packet (bundle.deeper depth)
bundle-takes (bundle_parts.Inside id depth) held packet Close = by (nat_lt 1 depth)
  where
    by : (b : Bool) → GoesOn (cond b (bundle.gathers (bundle_parts.Inside id depth) held id packet (depth - 1)) (bundle.ends_bundle held id packet))
    by true = bundle-gathers (bundle_parts.Inside id depth) held id packet (depth - 1)
    by false = λ d. cc

-- So has a Bundle.
pub bundle-hears : (component : Bundle) (told : List Happening) → EndedRun bundle_rules component told → told ≢ [] → HeardEnd 0 told
bundle-hears component told run some =
    end-heard bundle_rules (λ _. refl) bundle_lawful Never
    (λ p q s l. elim l [ inl d ↦ subst GoesOn (sym s.comes_to) (λ e. cc) d | inr n ↦ n ])
    (λ p port t q s l. elim l [ inl d ↦ subst GoesOn (sym s.comes_to) (bundle-takes p.component s.held (id_of t) (kind_at s.held.packets (id_of t))) d | inr n ↦ n ])
    (λ p port t q s l. elim l [ inl d ↦ subst GoesOn (sym s.comes_to) (λ e. cc) d | inr n ↦ n ])
    (λ p port level q s l. s.is_ready) component told run (λ n. n) some

-- Unbundle

unbundle-opens : (held : Held) (id : ℕ) (chain : List Tree) → GoesOn (unbundle.opens_up held id chain)
unbundle-opens held id [] = λ d. cc
unbundle-opens held id (child ∷ children) = λ d. cc

unbundle-unpacks : (held : Held) (id : ℕ) (chain : List Tree) → GoesOn (unbundle.unpacks held id chain)
unbundle-unpacks held id [] = λ d. cc
unbundle-unpacks held id (child ∷ children) = λ d. cc

unbundle-on : (held : Held) (component : Unbundle) → GoesOn (unbundle.goes_on held component)
unbundle-on held unbundle_parts.Waiting = λ d. cc
unbundle-on held (unbundle_parts.Unpacking id) = unbundle-unpacks held id (chain_of_root held.packets id items)

-- So has an Unbundle.
pub unbundle-hears : (component : Unbundle) (told : List Happening) → EndedRun unbundle_rules component told → told ≢ [] → HeardEnd 0 told
unbundle-hears component told run some =
    end-heard unbundle_rules (λ _. refl) unbundle_lawful Never
    (λ p q s l. elim l [ inl d ↦ subst GoesOn (sym s.comes_to) (λ e. cc) d | inr n ↦ n ])
    (λ p port t q s l. elim l [ inl d ↦ subst GoesOn (sym s.comes_to) (unbundle-opens s.held (id_of t) (chain_of_root s.held.packets (id_of t) items)) d | inr n ↦ n ])
    (λ p port t q s l. elim l [ inl d ↦ subst GoesOn (sym s.comes_to) (unbundle-on s.held p.component) d | inr n ↦ n ])
    (λ p port level q s l. s.is_ready) component told run (λ n. n) some
