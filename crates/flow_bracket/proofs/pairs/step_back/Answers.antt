use Rattle.std.proofs.Common.{◌≡◌, ◌+◌, ◌++◌, ◌∷◌, [], Some, sym, subst, ◌∙◌, ℕ, List}
use Rattle.std.specs.Prelude.{slice_get}
use Rattle.std.proofs.lemmas.List.{nil_from_length}
use Rattle.flow_packet.specs.declared.packet.Kind.TheVariants.{Normal, Open, Close}
use Rattle.flow_bracket.specs.Scans.{Scanned}
use Rattle.flow_bracket.proofs.Scanning.{stands}
use Rattle.flow_bracket.proofs.Pairing.{step-normal, step-close, step-open, step-pair}
use Rattle.flow_bracket.proofs.pairs.step_back.Goals as goal

pub returns-in-Normal : goal.returns-in-Normal
returns-in-Normal c =
    let here : slice_get c.args.kinds.now c.args.place ≡ Some Normal = stands c.args.kinds.now c.args.place Normal Normal c.requires.there c.in-Normal.is in
    step-normal c.args.kinds.now c.args.place c.args.closes.now.items c.args.pairs.now.items here c.requires.scanned

pub returns-in_ok-push-in-Close : goal.returns-in_ok-push-in-Close
returns-in_ok-push-in-Close c =
    let here : slice_get c.args.kinds.now c.args.place ≡ Some Close = stands c.args.kinds.now c.args.place _ Close c.requires.there c.in-Close.is in
    rw c.in_ok-push-in-Close.ensures.items (step-close c.args.kinds.now c.args.place c.args.closes.now.items c.args.pairs.now.items here c.requires.scanned)

pub returns-in_default : goal.returns-in_default
returns-in_default c =
    let here : slice_get c.args.kinds.now c.args.place ≡ Some Open = stands c.args.kinds.now c.args.place _ Open c.requires.there c.in-Open.is in
    let none : c.args.closes.now.items ≡ [] = nil_from_length _ (sym c.args.closes.now.ok.0 ∙ c.in_default.ensures.cases.0) in
    let still : c.pop.new.self.items ≡ [] = nil_from_length _ (sym c.pop.new.self.ok.0 ∙ c.in_default.ensures.cases.1) in
    let before = subst (λ (closes : List ℕ). Scanned c.args.kinds.now (c.args.place + 1) closes c.args.pairs.now.items) none c.requires.scanned in
    subst (λ (closes : List ℕ). Scanned c.args.kinds.now c.args.place closes c.args.pairs.now.items) (sym still) (step-open c.args.kinds.now c.args.place c.args.pairs.now.items here before)

pub returns-in_ok-push-in-Open : goal.returns-in_ok-push-in-Open
returns-in_ok-push-in-Open c =
    let here : slice_get c.args.kinds.now c.args.place ≡ Some Open = stands c.args.kinds.now c.args.place _ Open c.requires.there c.in-Open.is in
    let before : Scanned c.args.kinds.now (c.args.place + 1) (c.pop.new.self.items ++ c.in-Some.close ∷ []) c.args.pairs.now.items = rw (← c.in-Some.ensures.items) c.requires.scanned in
    rw c.in_ok-push-in-Open.ensures.items (step-pair c.args.kinds.now c.args.place c.in-Some.close c.pop.new.self.items c.args.pairs.now.items here before)
