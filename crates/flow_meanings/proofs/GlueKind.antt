-- What is known of Glue.
use Rattle.std.proofs.Common.{◌≡◌, ℕ, List, refl, sym, ap, ◌∙◌, subst, arith}
use Rattle.flow_component.specs.Happenings.{Happening}
use Rattle.flow_component.specs.Runs.{EndedRun}
use Rattle.flow_fold.specs.declared.folder.Stretch.TheVariants.{Bare}
use Rattle.flow_fold.specs.Folding.{Folded, beginning, folder_rules}
use Rattle.flow_fold.specs.Made.{made_of}
use Rattle.flow_fold.specs.Glue.{GluedState, glue_folding, glue_folded}
use Rattle.flow_fold.specs.GlueLaws.{glue_laws, glue_tells}
use Rattle.flow_fold.proofs.FolderStream.{folder_meaning}
use Rattle.flow_fold.proofs.FolderEnd.{folder_hears}
use Rattle.flow_catalogue.specs.Components.{glue_kind}
use Rattle.flow_catalogue.specs.declared.standard.Std.{Std}
use Rattle.flow_catalogue.specs.declared.standard.Std.TheVariants as components
use Rattle.flow_model.specs.States.{Process}
use Rattle.flow_meanings.specs.Means.{bytes_of}
use Rattle.flow_meanings.proofs.LineKinds.{by-one}
use Rattle.flow_meanings.proofs.Over.{Over, Own, own, single-ends, single-texts}
use Rattle.flow_meanings.proofs.Facts.{Facts}

glue-own : (component : Folded (List ℕ) GluedState) (p : ℕ) (told : List Happening) (x : Process Std) → Over (components.Glue component) p told x → Own components.Glue (folder_rules glue_folding) component told x
glue-own component p told x over = own components.Glue glue_kind (λ k. refl) component p told x over

glue-run : (component : Folded (List ℕ) GluedState) (p : ℕ) (told : List Happening) (x : Process Std) → component ≡ beginning glue_folding component.kind Bare → Over (components.Glue component) p told x
    → EndedRun (folder_rules glue_folding) (beginning glue_folding component.kind Bare) told
glue-run component p told x first over = subst (λ (w : Folded (List ℕ) GluedState). EndedRun (folder_rules glue_folding) w told) first (glue-own component p told x over).run

-- The facts of Glue.
pub glue-facts : (component : Folded (List ℕ) GluedState) → Facts (components.Glue component)
glue-facts component = record {
  means = λ p told x first over. folder_meaning glue_folding glue_laws glue_folded glue_tells component.kind told (glue-run component p told x first over) (over.run.end_is_last 0 (single-ends x told over.run.once over.fits));
  texts = λ p told x first over some. single-texts (components.Glue component) p told x over refl some (folder_hears glue_folding glue_laws component.kind told (glue-run component p told x first over) some);
  change = λ w w' x x' y y' same m. sym (same.outputs 0 refl) ∙ m ∙ ap (made_of (glue_folded component.kind)) (same.inputs 0 (omega arith));
  wrote_none = λ p told x over none. ap bytes_of (glue-own component p told x over).is;
  settles = λ s w w' x x' y y' ins m n. by-one (made_of (glue_folded component.kind)) x x' y y' ins m n;
}
