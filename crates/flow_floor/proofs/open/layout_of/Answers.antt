use Rattle.std.proofs.Common.{ℕ, ◌<◌, All, List, ap, arith, length, subst, sym}
use Rattle.std.proofs.lemmas.List.{length-map}
use Rattle.flow_model.specs.Stands.{ChannelShown}
use Rattle.flow_ring.specs.Places.{cells_before}
use Rattle.flow_floor.proofs.Starting.{few-cells, some-rooms}
use Rattle.flow_floor.proofs.open.layout_of.Goals as goal

pub of-requires : goal.of-requires
of-requires g c = let ks = c.args.net.now.channels in let sizes = c.in_ok-capacities.ensures in record {
  some = subst (λ (zs : List ℕ). All (λ x. 0 < x) zs) (sym sizes) (some-rooms ks c.requires.sound);
  small = omega (arith, ap (λ (zs : List ℕ). length zs) sizes, length-map ks (λ (k : ChannelShown). k.capacity), ap (λ (zs : List ℕ). cells_before zs (length zs)) sizes, few-cells ks c.requires.sound, c.requires.few, c.processes.ensures.few);
}
