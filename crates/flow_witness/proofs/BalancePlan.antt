-- The worked plan is a valid one over the standard kinds, and its first components fit.
use Rattle.flow_limits.specs.declared.TheConstants.{CAPACITY_LIMIT, SENDER_LIMIT}
use Rattle.std.proofs.Common.{◌≡◌, ℕ, zero, suc, ◌<◌, ◌≤◌, ◌+◌, Bool, true, false, List, [], ◌∷◌, length, Some, refl, sym, ◌∙◌, ap, subst, arith, inl, slice_get}
use Rattle.std.proofs.lemmas.Bool.Decides.{nat_tests}
use Rattle.std.proofs.lemmas.List.Elements.{All-nil}
use Rattle.std.specs.Prelude.{codes, IsTrue, if◌then◌else◌, ◌==◌, nat_lt}
use Rattle.std.specs.Str.{bytes_eq}
use Rattle.flow_plan.specs.declared.plan.Sender.{Sender}
use Rattle.flow_plan.specs.declared.plan.Process.{Process}
use Rattle.flow_plan.specs.declared.plan.Connection.{Connection}
use Rattle.flow_plan.specs.declared.plan.PortRow.{PortRow}
use Rattle.flow_plan.specs.declared.plan.PortTable.{PortTable}
use Rattle.flow_plan.specs.declared.kind.PortClass.TheVariants.{Stream, File}
use Rattle.flow_plan.specs.Network.{IsInputEnd, IsOutputEnd, is_stream}
use Rattle.flow_plan.specs.Valid.{HasConnection, HasSender, HasOption, HasOptionPort, FitsOption, NeedsOutput, IsRow, HasOptions, HasRows, IsWired, IsValid, needs_of}
use Rattle.flow_plan.specs.Texts.{IsFileName}
use Rattle.flow_plan.specs.Templates.{Fits, TemplatesFit}
use Rattle.flow_net.specs.Over.{IsOver, IsOfKind}
use Rattle.flow_catalogue.specs.declared.table.StdKind.TheVariants as kinds
use Rattle.flow_catalogue.specs.Kinds.{spec_of, std_kinds}
use Rattle.flow_witness.specs.Chain.{plain_row, reader_of}
use Rattle.flow_witness.specs.Ends.{reader_ports}
use Rattle.flow_witness.specs.Complete.{balance, balance_link, discard_ports}
use Rattle.flow_witness.proofs.FileNames.{plain-name}
use Rattle.flow_witness.proofs.Wired.{at_one, at_two, at_three, only_first, none_there}

some_is : {X : Type 0} → (a b : X) → Some a ≡ Some b → a ≡ b
some_is a b h = cc

-- What holds of four members holds at every place of a list of four.
pub at_four : {X : Type 0} → (P : ℕ → X → Type 0) (a b c d : X) → P 0 a → P 1 b → P 2 c → P 3 d → (k : ℕ) (x : X) → slice_get (a ∷ b ∷ c ∷ d ∷ []) k ≡ Some x → P k x
at_four P a b c d pa pb pc pd zero x h = subst (λ y. P 0 y) (some_is a x h) pa
at_four P a b c d pa pb pc pd (suc k) x h = at_three (λ i y. P (suc i) y) b c d pb pc pd k x h

abbrev pub reader : Process
reader = reader_of (codes "R") (codes "x")

abbrev pub balancer : Process
balancer = record { name = codes "L"; kind = codes "LoadBalance"; options = []; initials = []; inputs = 1; outputs = 2 }

abbrev pub dropper : Process
dropper = record { name = codes "A"; kind = codes "Discard"; options = []; initials = []; inputs = 1; outputs = 0 }

abbrev pub other_dropper : Process
other_dropper = record { name = codes "B"; kind = codes "Discard"; options = []; initials = []; inputs = 1; outputs = 0 }

abbrev out_array : PortRow
out_array = record { spec = record { name = codes "OUT"; class = Stream; array = true; needed = true }; elements = 2 }

abbrev balance_ports : PortTable
balance_ports = record { inputs = plain_row (codes "IN") Stream ∷ []; outputs = out_array ∷ [] }

abbrev c0 : Connection
c0 = balance_link 0 0 1

abbrev c1 : Connection
c1 = balance_link 1 0 2

abbrev c2 : Connection
c2 = balance_link 1 1 3

abbrev sender_at : ℕ → ℕ → Sender
sender_at p o = record { process = p; output = o }

-- Connection c leads to process c + 1.
receiver-is : (c : ℕ) (x : Connection) → slice_get balance.connections c ≡ Some x → x.receiver ≡ suc c
receiver-is c x h = at_three (λ k (y : Connection). y.receiver ≡ suc k) c0 c1 c2 refl refl refl c x h

-- A sender tells the number of its connection, and stands first there.
sender-is : (c k : ℕ) (x : Connection) (s : Sender) → slice_get balance.connections c ≡ Some x → slice_get x.senders k ≡ Some s → (s.process + s.output ≡ c) × (k ≡ 0)
sender-is c k x s hc hk = at_three (λ d (y : Connection). (i : ℕ) → slice_get y.senders i ≡ Some s → (s.process + s.output ≡ d) × (i ≡ 0)) c0 c1 c2
    (λ i h. at_one (λ j (t : Sender). (t.process + t.output ≡ 0) × (j ≡ 0)) (sender_at 0 0) (refl, refl) i s h)
    (λ i h. at_one (λ j (t : Sender). (t.process + t.output ≡ 1) × (j ≡ 0)) (sender_at 1 0) (refl, refl) i s h)
    (λ i h. at_one (λ j (t : Sender). (t.process + t.output ≡ 2) × (j ≡ 0)) (sender_at 1 1) (refl, refl) i s h)
    c x hc k hk

sends-at : (c k : ℕ) (x : Connection) (s : Sender) → slice_get balance.connections c ≡ Some x → slice_get x.senders k ≡ Some s → IsOutputEnd balance s.process s.output
sends-at c k x s hc hk = at_three (λ d (y : Connection). (i : ℕ) → slice_get y.senders i ≡ Some s → IsOutputEnd balance s.process s.output) c0 c1 c2
    (λ i h. at_one (λ j (t : Sender). IsOutputEnd balance t.process t.output) (sender_at 0 0) (reader, refl, omega arith) i s h)
    (λ i h. at_one (λ j (t : Sender). IsOutputEnd balance t.process t.output) (sender_at 1 0) (balancer, refl, omega arith) i s h)
    (λ i h. at_one (λ j (t : Sender). IsOutputEnd balance t.process t.output) (sender_at 1 1) (balancer, refl, omega arith) i s h)
    c x hc k hk

has-connection : (p i : ℕ) (q : Process) → slice_get balance.processes p ≡ Some q → i < q.inputs → HasConnection balance p i
has-connection p i q h lt = at_four (λ k (x : Process). (j : ℕ) → j < x.inputs → HasConnection balance k j) reader balancer dropper other_dropper
    (λ j below. absurd (omega (arith, below)))
    (λ j below. only_first j (λ n. HasConnection balance 1 n) below (record { number = 0; connection = c0; here = refl; receiver = refl; input = refl }))
    (λ j below. only_first j (λ n. HasConnection balance 2 n) below (record { number = 1; connection = c1; here = refl; receiver = refl; input = refl }))
    (λ j below. only_first j (λ n. HasConnection balance 3 n) below (record { number = 2; connection = c2; here = refl; receiver = refl; input = refl }))
    p q h i lt

-- No process has an initial text.
no-text : {X : Type 0} → (p k : ℕ) (q : Process) (text : ℕ × List ℕ) → slice_get balance.processes p ≡ Some q → slice_get q.initials k ≡ Some text → X
no-text {X} p k q text hq hk = at_four (λ j (x : Process). slice_get x.initials k ≡ Some text → X) reader balancer dropper other_dropper (none_there k text) (none_there k text) (none_there k text) (none_there k text) p q hq hk

wired : IsWired balance
wired = record {
  few_processes = omega arith;
  few_connections = omega arith;
  receivers = at_three (λ c (x : Connection). IsInputEnd balance x.receiver x.input) c0 c1 c2 (balancer, refl, omega arith) (dropper, refl, omega arith) (other_dropper, refl, omega arith);
  one_receiver = λ c d x y hc hd receiver input. (let a = receiver-is c x hc in let b = receiver-is d y hd in omega (arith, a, b, receiver));
  senders = λ c k x s hc hk. sends-at c k x s hc hk;
  one_sender = λ c d k l x y s hc hd hk hl.
      let a = sender-is c k x s hc hk in
      let b = sender-is d l y s hd hl in
      (sym a.0 ∙ b.0, a.1 ∙ sym b.1);
  each_input = λ p i input. inl (has-connection p i input.0 input.1 input.2);
  not_both = λ p i connection has. no-text p has.place has.process (i, has.text) has.here has.given;
  short = λ p k i q text h given. no-text p k q (i, text) h given;
  capacities = at_three (λ c (x : Connection). (1 ≤ x.capacity) × (x.capacity ≤ CAPACITY_LIMIT)) c0 c1 c2 (omega arith, omega arith) (omega arith, omega arith) (omega arith, omega arith);
  few_senders = at_three (λ c (x : Connection). length x.senders ≤ SENDER_LIMIT) c0 c1 c2 (omega arith) (omega arith) (omega arith);
}

-- The number of a process by its name.
abbrev number_of : List ℕ → ℕ
number_of name = if bytes_eq name (codes "R") then 0 else (if bytes_eq name (codes "L") then 1 else (if bytes_eq name (codes "A") then 2 else 3))

named : (p : ℕ) (x : Process) → slice_get balance.processes p ≡ Some x → number_of x.name ≡ p
named p x h = at_four (λ k (y : Process). number_of y.name ≡ k) reader balancer dropper other_dropper refl refl refl refl p x h

-- Each output has its connection.
first_sender : HasSender balance 0 0
first_sender = record { number = 0; connection = c0; place = 0; here = refl; sender = refl }

second_sender : HasSender balance 1 0
second_sender = record { number = 1; connection = c1; place = 0; here = refl; sender = refl }

third_sender : HasSender balance 1 1
third_sender = record { number = 2; connection = c2; place = 0; here = refl; sender = refl }

needed : (p o : ℕ) → NeedsOutput balance p o → HasSender balance p o
needed p o needs = at_four (λ k (t : PortTable). slice_get (needs_of t.outputs) o ≡ Some true → HasSender balance k o) reader_ports balance_ports discard_ports discard_ports
    (λ h. at_one (λ j (b : Bool). HasSender balance 0 j) true first_sender o true h)
    (λ h. at_two (λ j (b : Bool). HasSender balance 1 j) true true second_sender third_sender o true h)
    (none_there o true) (none_there o true)
    p needs.table needs.here needs.needed

input_name : IsFileName (codes "x")
input_name = plain-name (codes "x") refl

-- The one option is the reader's file.
the_option : FitsOption balance 0 0 (codes "x")
the_option = record { port = record { table = reader_ports; row = plain_row (codes "FILE") File; here = refl; at = refl; option = refl }; class = input_name; short = omega arith }

options-fit : (p k i : ℕ) (q : Process) (text : List ℕ) → slice_get balance.processes p ≡ Some q → slice_get q.options k ≡ Some (i, text) → FitsOption balance p i text
options-fit p k i q text h given = at_four (λ j (x : Process). slice_get x.options k ≡ Some (i, text) → FitsOption balance j i text) reader balancer dropper other_dropper
    (λ g. at_one (λ j (o : ℕ × List ℕ). FitsOption balance 0 o.0 o.1) (0, codes "x") the_option k (i, text) g)
    (none_there k (i, text)) (none_there k (i, text)) (none_there k (i, text))
    p q h given

-- A stream port is no option port.
no-option : {X : Type 0} → (i : ℕ) (row : PortRow) → slice_get (plain_row (codes "IN") Stream ∷ []) i ≡ Some row → is_stream row.spec.class ≡ false → X
no-option {X} i row h option = at_one (λ j (r : PortRow). is_stream r.spec.class ≡ false → X) (plain_row (codes "IN") Stream) (λ bad. absurd (let e : true ≡ false = bad in cc)) i row h option

each-option : (p i : ℕ) → HasOptionPort balance p i → HasOption balance p i
each-option p i port = at_four (λ k (t : PortTable). slice_get t.inputs i ≡ Some port.row → HasOption balance k i) reader_ports balance_ports discard_ports discard_ports
    (λ h. at_one (λ j (r : PortRow). HasOption balance 0 j) (plain_row (codes "FILE") File) (record { process = reader; place = 0; text = codes "x"; here = refl; given = refl }) i port.row h)
    (λ h. no-option i port.row h port.option) (λ h. no-option i port.row h port.option) (λ h. no-option i port.row h port.option)
    p port.table port.here port.at

first-option : (p k : ℕ) (q : Process) (option : ℕ × List ℕ) → slice_get balance.processes p ≡ Some q → slice_get q.options k ≡ Some option → k ≡ 0
first-option p k q option h given = at_four (λ j (x : Process). slice_get x.options k ≡ Some option → k ≡ 0) reader balancer dropper other_dropper
    (λ g. at_one (λ j (o : ℕ × List ℕ). j ≡ 0) (0, codes "x") refl k option g)
    (none_there k option) (none_there k option) (none_there k option)
    p q h given

-- No text of it is a template.
pub templates : TemplatesFit balance
templates = All-nil Fits

options : HasOptions balance
options = record {
  fits = λ p k i q text h given. options-fit p k i q text h given;
  each_option = λ p i needs. each-option p i needs.port;
  one_option = λ p k l i q text other h a b. first-option p k q (i, text) h a ∙ sym (first-option p l q (i, other) h b);
  templates = templates;
}

-- A row that is no array has one element.
single : (row : PortRow) → row.spec.array ≡ false → row.elements ≡ 1 → IsRow row
single row one is = record { array = λ h. absurd (let bad : true ≡ false = sym h ∙ one in cc); single = λ _. is }

array : IsRow out_array
array = record { array = λ _. (omega arith, omega arith); single = λ h. absurd (let bad : true ≡ false = h in cc) }

rows : HasRows balance
rows = record {
  inputs = λ p i table row h at. at_four (λ k (t : PortTable). slice_get t.inputs i ≡ Some row → IsRow row) reader_ports balance_ports discard_ports discard_ports
      (λ g. at_one (λ j (r : PortRow). IsRow r) (plain_row (codes "FILE") File) (single (plain_row (codes "FILE") File) refl refl) i row g)
      (λ g. at_one (λ j (r : PortRow). IsRow r) (plain_row (codes "IN") Stream) (single (plain_row (codes "IN") Stream) refl refl) i row g)
      (λ g. at_one (λ j (r : PortRow). IsRow r) (plain_row (codes "IN") Stream) (single (plain_row (codes "IN") Stream) refl refl) i row g)
      (λ g. at_one (λ j (r : PortRow). IsRow r) (plain_row (codes "IN") Stream) (single (plain_row (codes "IN") Stream) refl refl) i row g)
      p table h at;
  outputs = λ p o table row h at. at_four (λ k (t : PortTable). slice_get t.outputs o ≡ Some row → IsRow row) reader_ports balance_ports discard_ports discard_ports
      (λ g. at_one (λ j (r : PortRow). IsRow r) (plain_row (codes "OUT") Stream) (single (plain_row (codes "OUT") Stream) refl refl) o row g)
      (λ g. at_one (λ j (r : PortRow). IsRow r) out_array array o row g)
      (none_there o row) (none_there o row)
      p table h at;
}

-- The plan is valid.
pub valid : IsValid balance
valid = record {
  wired = wired;
  names = λ p q x y hp hq same. sym (named p x hp) ∙ ap number_of same ∙ named q y hq;
  laid_out = (refl, refl, (refl, refl, (refl, refl, (refl, refl, tt))));
  stream_texts = λ p i text. no-text p text.place text.process (i, text.text) text.here text.given;
  one_text = λ p k l i x text other h a b. no-text p k x (i, text) h a;
  needed_outputs = needed;
  capacity_sum = omega arith;
  options = options;
  rows = rows;
}

-- Each process is of a kind of the table.
of-kind : (p : ℕ) (x : Process) (table : PortTable) → slice_get balance.processes p ≡ Some x → slice_get balance.tables p ≡ Some table → IsOfKind std_kinds x table
of-kind p x table hx ht = at_four (λ k (y : Process). slice_get balance.tables k ≡ Some table → IsOfKind std_kinds y table) reader balancer dropper other_dropper
    (λ h. subst (λ (t : PortTable). IsOfKind std_kinds reader t) (some_is reader_ports table h) (record { place = 0; kind = spec_of kinds.ReadLines; here = refl; name = refl; inputs = refl; outputs = refl }))
    (λ h. subst (λ (t : PortTable). IsOfKind std_kinds balancer t) (some_is balance_ports table h) (record { place = 14; kind = spec_of kinds.LoadBalance; here = refl; name = refl; inputs = refl; outputs = refl }))
    (λ h. subst (λ (t : PortTable). IsOfKind std_kinds dropper t) (some_is discard_ports table h) (record { place = 9; kind = spec_of kinds.Discard; here = refl; name = refl; inputs = refl; outputs = refl }))
    (λ h. subst (λ (t : PortTable). IsOfKind std_kinds other_dropper t) (some_is discard_ports table h) (record { place = 9; kind = spec_of kinds.Discard; here = refl; name = refl; inputs = refl; outputs = refl }))
    p x hx ht

pub over : IsOver std_kinds balance
over = record { each = of-kind }

-- The outputs that a reader uses, and those that a LoadBalance of two uses.
pub reader-sends : (o : ℕ) → IsTrue (o == 0) → HasSender balance 0 o
reader-sends o uses = let h : (o == 0) ≡ true = uses in let first : 0 ≡ o = grind (arith, nat_tests) in subst (λ (n : ℕ). HasSender balance 0 n) first first_sender

pub balancer-sends : (o : ℕ) → IsTrue (nat_lt o 2) → HasSender balance 1 o
balancer-sends zero uses = second_sender
balancer-sends (suc zero) uses = third_sender
balancer-sends (suc (suc o)) uses = absurd (let h : nat_lt (suc (suc o)) 2 ≡ true = uses in let bad : suc (suc o) < 2 = grind (arith, nat_tests) in omega (arith, bad))
