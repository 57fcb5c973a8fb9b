-- Chains of processes: what their compositions say more simply. (This project's own.)
use Rattle.std.specs.Prelude.{◌≡◌, ℕ, List, [], map, Some, slice_get}
use Rattle.std.specs.List.{flat_map}
use Rattle.flow_packet.specs.Tree.{Tree}
use Rattle.flow_component.specs.Runs.{text_packet}
use Rattle.flow_parts.specs.declared.words.Words.TheVariants as words_parts
use Rattle.flow_parts.specs.Filling.{Filling}
use Rattle.flow_parts.specs.Meanings.{rendered_all, words_of, fresh_fill}
use Rattle.flow_catalogue.specs.declared.standard.Std.{Std}
use Rattle.flow_catalogue.specs.declared.standard.Std.TheVariants as components
use Rattle.flow_model.specs.Plans.{sends_at, receives_at}
use Rattle.flow_plan.specs.Network.{Network as Plan}
use Rattle.flow_plan.specs.declared.plan.Process.{Process as PlanProcess}
use Rattle.flow_meanings.specs.Composition.{Composes}

-- Process p of the plan runs this component.
pub record RunsComponent (plan : Plan) (ks : List Std) (p : ℕ) (component : Std) : Type 0 where
  pub process : PlanProcess
  pub there : slice_get plan.processes p ≡ Some process
  pub here : slice_get ks p ≡ Some component

-- Output 0 of process p, and no other, sends to the connection at input 0 of process q.
pub record LeadsTo (plan : Plan) (p q : ℕ) : Type 0 where
  pub connection : ℕ
  pub sends : sends_at plan p 0 ≡ Some connection
  pub alone : (r o : ℕ) → sends_at plan r o ≡ Some connection → (r ≡ p) × (o ≡ 0)
  pub receives : receives_at plan q 0 ≡ Some connection

-- A chain of a reader, a Words, a Fill and a writer.
pub record IsTelegram (plan : Plan) (ks : List Std) (a b c d : ℕ) (lines : List (List ℕ)) (size : ℕ) : Type 0 where
  pub reader : RunsComponent plan ks a (components.ReadLines lines)
  pub splitter : RunsComponent plan ks b (components.Words words_parts.Waiting)
  pub filler : RunsComponent plan ks c (components.Fill (fresh_fill size))
  pub writer : RunsComponent plan ks d (components.WriteLines [])
  pub to_splitter : LeadsTo plan a b
  pub to_filler : LeadsTo plan b c
  pub to_writer : LeadsTo plan c d

-- Its writer has written the lines of the one filling of the words of the reader's lines. (Naur's and Morrison's Telegram Problem.)
abbrev pub TelegramMeans : Type 0
TelegramMeans =
    (plan : Plan) (ks : List Std) (wrote : ℕ → List ℕ) (a b c d : ℕ) (lines : List (List ℕ)) (size : ℕ) → Composes plan ks wrote → IsTelegram plan ks a b c d lines size
    → (z : List Tree) × Filling size (flat_map words_of (map text_packet lines)) z × (wrote d ≡ rendered_all z)
