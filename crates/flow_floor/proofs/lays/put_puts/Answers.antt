use Rattle.std.proofs.Common.{◌≡◌, ◌∙◌, ◌++◌, ◌∷◌, [], Some, ap, slice_get, sym}
use Rattle.std.proofs.lemmas.Option.{slice_get-get_or}
use Rattle.flow_model.specs.Stands.{ChannelShown}
use Rattle.flow_floor.specs.declared.board.Slot.TheVariants as slot
use Rattle.flow_floor.proofs.Filling.{put-more}
use Rattle.flow_floor.proofs.lays.put_puts.Goals as goal

pub loop-c-preserved : goal.loop-c-preserved
loop-c-preserved g c = let i = c.loop-c.invariant in let channels = c.args.channels.now in let k = c.index-channels-c.result in
    let there : slice_get channels c.loop-c.c ≡ Some k = slice_get-get_or channels c.loop-c.c k c.loop-c-test.true ∙ ap (λ (x : ChannelShown). Some x) (sym c.index-channels-c.is) in
    record {
      items = put-more (λ (x : ChannelShown). slot.Count x.puts) channels c.loop-c.c k c.args.slots.items c.loop-c.slots.items c.push_reserved.new.self.items there i.items (c.push_reserved.ensures.items ∙ ap (λ n. c.loop-c.slots.items ++ slot.Count n ∷ []) c.puts.ensures);
      room = c.push_reserved.ensures.capacity ∙ i.room;
    }
