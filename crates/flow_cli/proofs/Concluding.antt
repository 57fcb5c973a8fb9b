-- What a call came to, by what there was to write and to print.
use Rattle.std.proofs.Common.{◌≡◌, List, Ok, ap, inl, sym, subst}
use Rattle.std.specs.Prelude.{String}
use Rattle.std.specs.declared.alloc.Global.{Global}
use Rattle.flow_cli.specs.After.{Outputs}
use Rattle.flow_text.specs.Edge.{Outside}
use Rattle.flow_words.specs.Words.{run_of}
use Rattle.flow_cli.specs.Live.{AnyNet}
use Rattle.flow_load.specs.Offers.{Offer, Recorded}
use Rattle.flow_runner.specs.declared.worked.Crew.{Crew}
use Rattle.flow_journal.specs.declared.merge.Journal.{Journal}
use Rattle.flow_cli.specs.Meant.{LeavesMeaning}
use Rattle.flow_load.specs.Statuses.{IsFinished, IsOver}
use Rattle.flow_cli.specs.Top.{call_of, recorded_in, recorded_of, Performs, Concludes, Says, IsCaused, IsManned, ComesToEnd, IsComplete}
use Rattle.flow_load.specs.Valid.{IsReplay}
use Rattle.flow_cli.specs.Workers.{IsMadeAsAsked}
use Rattle.flow_cli.specs.declared.run.Said.{Said}
use Rattle.flow_cli.specs.declared.run.Done.{Done}
use Rattle.flow_cli.specs.declared.run.Done.TheVariants.{Ran as HasRan, Said as HasSaid}
use Rattle.flow_load.specs.declared.status.Status.TheVariants.{Running}
use Rattle.flow_cli.specs.declared.top.Outcome.{Outcome}
use Rattle.flow_load.specs.Prepare.{so_far}
use Rattle.flow_cli.proofs.TopLaws.{Laws}
use Rattle.flow_cli.proofs.Ends.{ran-caused, ran-well, ran-status, ran-complete, said-caused, said-well, said-status, said-complete, said-meaning}
use Rattle.flow_cli.proofs.Manned.{as-asked}
use Rattle.flow_cli.proofs.Meaning.{meant}

-- what is said of the shelf before the printing is said of it behind
says-behind : (words : List (String Global)) (own : List Offer) (o a n : Outside) (said : Said) → n ≡ a → Says (so_far words own o a (recorded_in said)) said.text.items said.status
    → Says (so_far words own o n (recorded_in said)) said.text.items said.status
says-behind words own o a n said same says = subst (λ (x : Outside). Says (so_far words own o x (recorded_in said)) said.text.items said.status) (sym same) says

-- An ended call came to its end well.
pub done-over : (words : List (String Global)) (own : List Offer) (o a n : Outside) (po pn : Outputs) (done : Done AnyNet) (outcome : Outcome) → Performs own o a words (Ok done) → Concludes a n po pn done outcome
    → IsOver outcome.status → ComesToEnd (call_of words own o n po pn (recorded_of outcome) outcome.status)
done-over words own o a n po pn (HasRan run) outcome has did over =
    subst (λ (r : Recorded). ComesToEnd (call_of words own o n po pn r outcome.status)) (sym did.1) (ran-well words own o a n po pn run outcome.status has did.0 over)
done-over words own o a n po pn (HasSaid said) outcome says did over =
    subst (λ (r : Recorded). ComesToEnd (call_of words own o n po pn r outcome.status)) (sym did.2)
    (said-well words own o n po pn said outcome.status (says-behind words own o a n said did.0 says.0) did.1 over)

-- A finished one left what its network means.
pub done-meaning : Laws → (words : List (String Global)) (own : List Offer) (o a n : Outside) (po pn : Outputs) (done : Done AnyNet) (outcome : Outcome) → Performs own o a words (Ok done)
    → Concludes a n po pn done outcome → IsFinished outcome.status → LeavesMeaning (so_far words own o n (recorded_of outcome))
done-meaning laws words own o a n po pn (HasRan run) outcome has did finished =
    subst (λ (r : Recorded). LeavesMeaning (so_far words own o n r)) (sym did.1) (meant laws words own o a n po pn run outcome.status has did.0 finished)
done-meaning laws words own o a n po pn (HasSaid said) outcome says did finished =
    subst (λ (r : Recorded). LeavesMeaning (so_far words own o n r)) (sym did.2)
    (said-meaning words own o n po pn said outcome.status (says-behind words own o a n said did.0 says.0) did.1)

-- Its status has its cause.
pub done-cause : (words : List (String Global)) (own : List Offer) (o a n : Outside) (po pn : Outputs) (done : Done AnyNet) (outcome : Outcome) → Performs own o a words (Ok done) → Concludes a n po pn done outcome
    → IsCaused (call_of words own o n po pn (recorded_of outcome) outcome.status)
done-cause words own o a n po pn (HasRan run) outcome has did =
    subst (λ (r : Recorded). IsCaused (call_of words own o n po pn r outcome.status)) (sym did.1) (ran-caused words own o a n po pn run outcome.status has did.0)
done-cause words own o a n po pn (HasSaid said) outcome says did =
    subst (λ (r : Recorded). IsCaused (call_of words own o n po pn r outcome.status)) (sym did.2)
    (said-caused words own o n po pn said outcome.status (says-behind words own o a n said did.0 says.0) did.1)

-- Where its network can go on, a replay was asked for.
pub done-status : (words : List (String Global)) (own : List Offer) (o a n : Outside) (po pn : Outputs) (done : Done AnyNet) (outcome : Outcome) → Performs own o a words (Ok done) → Concludes a n po pn done outcome
    → outcome.status ≡ Running → IsReplay words
done-status words own o a n po pn (HasRan run) outcome has did is = ran-status words own o a n po pn run outcome.status has did.0 is
done-status words own o a n po pn (HasSaid said) outcome says did is =
    said-status words own o n po pn said outcome.status (says-behind words own o a n said did.0 says.0) did.1 is

-- Where no count rose and all that was read is valid, it came to its end, or memory was wanting.
pub done-complete : Laws
    → (words : List (String Global)) (own : List Offer) (o a n : Outside) (po pn : Outputs) (done : Done AnyNet) (outcome : Outcome) → Performs own o a words (Ok done) → Concludes a n po pn done outcome
    → IsComplete (call_of words own o n po pn (recorded_of outcome) outcome.status)
done-complete laws words own o a n po pn (HasRan run) outcome has did =
    subst (λ (r : Recorded). IsComplete (call_of words own o n po pn r outcome.status)) (sym did.1) (ran-complete words own o a n po pn run outcome.status has did.0 laws)
done-complete laws words own o a n po pn (HasSaid said) outcome says did =
    subst (λ (r : Recorded). IsComplete (call_of words own o n po pn r outcome.status)) (sym did.2)
    (said-complete words own o n po pn said outcome.status (says-behind words own o a n said did.0 says.0) did.1)

-- the same journal of the same crew
made-same : (words : List (String Global)) (crew new_crew : Crew) (journal new_journal : Journal) → new_journal ≡ journal → new_crew ≡ crew → IsMadeAsAsked words crew journal
    → IsMadeAsAsked words new_crew new_journal
made-same words crew new_crew journal new_journal same_journal same_crew made =
    subst (λ (j : Journal). IsMadeAsAsked words new_crew j) (sym same_journal) (subst (λ (c : Crew). IsMadeAsAsked words c journal) (sym same_crew) made)

-- Its turns were made by as many workers as were asked for.
pub done-manned : (words : List (String Global)) (own : List Offer) (o a n : Outside) (po pn : Outputs) (done : Done AnyNet) (outcome : Outcome) → Performs own o a words (Ok done) → Concludes a n po pn done outcome → IsManned words outcome
done-manned words own o a n po pn (HasRan run) outcome has did =
    inl (made-same words run.ran.crew outcome.crew run.ran.journal outcome.journal (ap (λ (r : Recorded). r.journal) did.1) did.2 (as-asked words (run_of has.asked) run.ran.crew run.ran.journal has.asks has.made))
done-manned words own o a n po pn (HasSaid said) outcome says did = inl (made-same words said.crew outcome.crew said.journal outcome.journal (ap (λ (r : Recorded). r.journal) did.2) did.3 says.1)
