use Rattle.floyd_entail.specs.Exists as exists
use Rattle.floyd_entail.specs.Facts as facts
use Rattle.floyd_entail.specs.Intros as intros
use Rattle.floyd_entail.specs.Reroot as reroot
use Rattle.floyd_entail.specs.Valid as valid
use Rattle.floyd_entail.specs.Weaken as weaken
use Rattle.floyd_goal_parts.specs.Sources.{part_number}
use Rattle.floyd_entail_soundness.specs.Rows.{CancelRow, IsWitness}
use Rattle.floyd_entail_soundness.proofs.Cancelling.{cancel_sound}
use Rattle.floyd_entail_soundness.proofs.InPlace.{in_place_sound}
use Rattle.floyd_entail_soundness.proofs.Naming.{intros_sound}
use Rattle.floyd_entail_soundness.proofs.Putting.{exists_sound}
use Rattle.floyd_entail_soundness.proofs.Replacing.{reroot_keeps, weaken_keeps}
use Rattle.floyd_entail_soundness.proofs.Stating.{facts_sound}
use Rattle.floyd_entail_soundness.proofs.Validating.{valid_sound}
use Rattle.floyd_formed_entail.proofs.Cancelled.{cancel_forms}
use Rattle.floyd_formed_entail.proofs.Opening.{intros_forms}
use Rattle.floyd_formed_facts.proofs.Stating.{facts_forms}
use Rattle.floyd_formed_places.proofs.Putting.{reroot_forms, weaken_forms}
use Rattle.floyd_formed_renaming.proofs.Witness.{exists_forms}
use Rattle.floyd_formed_valid.proofs.Validated.{valid_forms}
use Rattle.floyd_row_laws.specs.Laws.{Nothing}
use Rattle.floyd_row_laws.proofs.Gathering.{where_asked, where_few}
use Rattle.floyd_row_laws.proofs.laws.rows_on_assertions.Goals as goal

pub returns-clause-intros : goal.returns-clause-intros
returns-clause-intros c = where_few (λ structs. intros.Row) (λ defs specs n g args goals formed asks row h. intros_sound defs specs n g args goals formed asks row h) (λ defs specs g args goals formed few row. intros_forms defs specs g args goals formed few row)

pub returns-clause-exists : goal.returns-clause-exists
returns-clause-exists c = where_asked IsWitness (λ structs. exists.Row) (λ defs specs n g args goals formed asks row h. exists_sound defs specs n g args goals formed asks row h) (λ defs specs g args goals formed w row. exists_forms defs specs g args goals formed w row)

pub returns-clause-cancel : goal.returns-clause-cancel
returns-clause-cancel c = where_asked Nothing (λ structs. CancelRow) (λ defs specs n g args goals formed asks row h. cancel_sound defs specs n g goals formed row h) (λ defs specs g args goals formed none row. cancel_forms defs specs g args goals formed row)

pub returns-clause-weaken : goal.returns-clause-weaken
returns-clause-weaken c =
    where_asked Nothing weaken.Row (λ defs specs n g args goals formed asks row h. in_place_sound defs specs n g (part_number args.target) (weaken.weakened defs.structs) goals formed (weaken_keeps defs specs) row h) (λ defs specs g args goals formed none row. weaken_forms defs specs g args goals formed row)

pub returns-clause-facts : goal.returns-clause-facts
returns-clause-facts c = where_asked Nothing facts.Row (λ defs specs n g args goals formed asks row h. facts_sound defs specs n g (part_number args.target) goals formed row h) (λ defs specs g args goals formed none row. facts_forms defs specs g args goals formed row)

pub returns-clause-valid : goal.returns-clause-valid
returns-clause-valid c = where_asked Nothing valid.Row (λ defs specs n g args goals formed asks row h. valid_sound defs specs n g args goals formed row h) (λ defs specs g args goals formed none row. valid_forms defs specs g args goals formed row)

pub returns-clause-reroot : goal.returns-clause-reroot
returns-clause-reroot c =
    where_asked Nothing reroot.Row (λ defs specs n g args goals formed asks row h. in_place_sound defs specs n g (part_number args.target) (reroot.rerooted defs.structs) goals formed (reroot_keeps defs specs) row h) (λ defs specs g args goals formed none row. reroot_forms defs specs g args goals formed row)
