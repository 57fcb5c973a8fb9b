-- What searches by steps, and for which automaton's program.
use Rattle.std.specs.Prelude.{◌≡◌, ◌-◌, Option, IfSome, vec_len}
use Rattle.regex_dfa.specs.declared.dfa.Dfa.{Dfa}
use Rattle.regex_vm.specs.Pike.{Room}

-- Where there is one, it has a place for each state of the automaton's program, and for each cell of the groups.
abbrev pub HasRoomFor : Dfa → Option Room → Type 0
HasRoomFor dfa kept = IfSome kept (λ room. (room.states ≡ vec_len dfa.nfa.states) × (room.groups ≡ dfa.nfa.slot_count - 2))
