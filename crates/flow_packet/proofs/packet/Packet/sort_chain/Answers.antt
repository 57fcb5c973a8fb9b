use Rattle.std.proofs.Common.{◌≡◌, get_or, Some, None, sym, ◌∙◌, position, List, [], refl, subst}
use Rattle.flow_packet.specs.Tree.{refill, chain_at, chains_of, Tree}
use Rattle.flow_packet.specs.View.{chains_in, is_named}
use Rattle.flow_packet.specs.Sorting.{IsStableSort}
use Rattle.flow_packet.proofs.Trees.{chains_of-tree_of, chain_at-None, chain_at-Some}
use Rattle.flow_packet.proofs.Edits.{tree_of-chains}
use Rattle.flow_packet.proofs.Sorting.{none_sorted, refill-Some, refill-None, IsSound-refilled}
use Rattle.flow_packet.proofs.packet.Packet.sort_chain.Goals as goal

pub returns-in_default-clause-ok : goal.returns-in_default-clause-ok
returns-in_default-clause-ok c =
    let name = c.args.name.now in
    let p : position (is_named name) c.self.inside.chains.items ≡ None = rw (← c.deref.ensures.value) (sym c.in_default.ensures) in
    let m : chain_at (chains_of c.args.self.now) name ≡ [] = rw (← c.self.view_is, chains_of-tree_of) (chain_at-None c.self.inside.chains.items name p) in
    record {
      order = [];
      sorts = subst (λ (ts : List Tree). IsStableSort c.args.bytes ts []) (sym m) (none_sorted c.args.bytes);
      only = rw (← c.self.view_is) (tree_of-chains c.self.inside c.self.inside.chains.items (λ cs. refill cs name []) (refill-None c.self.inside.chains.items name [] p));
    }

pub invariant_of-self-2 : goal.invariant_of-self-2
invariant_of-self-2 c =
    let name = c.args.name.now in
    let d = c.index_mut-chain.result.now in
    let p : position (is_named name) c.self.inside.chains.items ≡ Some c.in-Some.place = rw (← c.deref.ensures.value) (sym c.in-Some.ensures) in
    let at : d.packets ≡ chain_at (chains_in c.self.inside.chains.items) name = sym (chain_at-Some c.self.inside.chains.items name c.in-Some.place d p ∙ rw (← c.index_mut-chain.ensures.value) refl) in
    let sorts : IsStableSort c.args.bytes (chain_at (chains_in c.self.inside.chains.items) name) c.sort.new.self = subst (λ (ts : List Tree). IsStableSort c.args.bytes ts c.sort.new.self) at c.in_ok-sort.ensures.ok in
    let g : (d.name.items, c.sort.new.self) ≡ ((get_or c.self.inside.chains.items c.in-Some.place d).name.items, c.sort.new.self) = rw (← c.index_mut-chain.ensures.value) refl in
    IsSound-refilled c.self.inside _ name c.sort.new.self c.self.invariant sorts.same (refill-Some c.self.inside.chains.items name c.sort.new.self c.in-Some.place d _ p g) refl

pub returns-clause-ok : goal.returns-clause-ok
returns-clause-ok c =
    let name = c.args.name.now in
    let d = c.index_mut-chain.result.now in
    let p : position (is_named name) c.self.inside.chains.items ≡ Some c.in-Some.place = rw (← c.deref.ensures.value) (sym c.in-Some.ensures) in
    let at : d.packets ≡ chain_at (chains_of c.args.self.now) name = rw (← c.self.view_is, chains_of-tree_of) (sym (chain_at-Some c.self.inside.chains.items name c.in-Some.place d p ∙ rw (← c.index_mut-chain.ensures.value) refl)) in
    let g : (d.name.items, c.sort.new.self) ≡ ((get_or c.self.inside.chains.items c.in-Some.place d).name.items, c.sort.new.self) = rw (← c.index_mut-chain.ensures.value) refl in
    record {
      order = c.sort.new.self;
      sorts = subst (λ (ts : List Tree). IsStableSort c.args.bytes ts c.sort.new.self) at c.in_ok-sort.ensures.ok;
      only = rw (← c.self.view_is) (tree_of-chains c.self.inside _ (λ cs. refill cs name c.sort.new.self) (refill-Some c.self.inside.chains.items name c.sort.new.self c.in-Some.place d _ p g));
    }
