-- The next operand of a row.
use Rattle.std.proofs.Common.{◌≡◌, Bool, List, ◌∷◌, map, Ok, ap, sym, ◌∙◌}
use Rattle.floyd_text.specs.declared.place.Place.{Place}
use Rattle.floyd_tree.specs.Plain.{Plain}
use Rattle.floyd_termread_groups.specs.declared.grouped.GroupedLink.{GroupedLink}
use Rattle.floyd_termread_scope.specs.Scopes.{Env}
use Rattle.floyd_termread_wants.specs.declared.stop.JudgeStop.{JudgeStop}
use Rattle.floyd_termread_wants.specs.declared.wants.Wanted.{Wanted}
use Rattle.floyd_termread_wants.specs.Judging.{Judged, ◌>>=◌, JudgeStops}
use Rattle.floyd_termread_wants.proofs.JudgedLists.{stops, same_stop}
use Rattle.floyd_termread_terms.specs.declared.rows.RowSoFar.{RowSoFar}
use Rattle.floyd_termread_terms.specs.Rows.{is_end, next_wanted, with_operand, operand_at, one_link, row_from}
use Rattle.floyd_termread_terms.specs.Terms.{sense_of, link_of}

module _ (e : Env) (wanted : Wanted) (so_far : RowSoFar) (rest behind : List GroupedLink) (link : GroupedLink) (total : Judged Plain) (is : rest ≡ link ∷ behind) (done : row_from e wanted so_far (map link_of rest) ≡ total) where
  after_link : RowSoFar → Judged Plain
  after_link more = row_from e wanted more (map link_of behind)

  here : one_link e wanted so_far (is_end (map link_of behind)) (link_of link) >>= after_link ≡ total
  unfolding after_link
  here = sym (ap (λ (ls : List GroupedLink). row_from e wanted so_far (map link_of ls)) is) ∙ done

  module _ (last : Bool) (side : Wanted) (last_is : last ≡ is_end (map link_of behind)) (side_is : side ≡ next_wanted link.«infix» last so_far.last.term) where
    read_by : Bool → Plain → Judged RowSoFar
    read_by b x = with_operand link.«infix» b wanted so_far (operand_at (sense_of link.operand) x)

    step : (sense_of link.operand).term e side >>= read_by last ≡ one_link e wanted so_far (is_end (map link_of behind)) (link_of link)
    unfolding read_by
    step =
        ap (λ (v : Wanted). (sense_of link.operand).term e v >>= read_by last) side_is
        ∙ ap (λ (b : Bool). (sense_of link.operand).term e (next_wanted link.«infix» b so_far.last.term) >>= read_by b) last_is

    pub operand_stops : (stop : JudgeStop) → JudgeStops stop ((sense_of link.operand).term e side) → JudgeStops stop total
    operand_stops stop h =
        same_stop stop _ _ here (stops stop _ after_link (same_stop stop _ _ step (stops stop _ (read_by last) h)))

    module _ (x : Plain) (place : Place) (place_is : place ≡ (sense_of link.operand).place) (read : (sense_of link.operand).term e side ≡ Ok x) where
      with_is : with_operand link.«infix» last wanted so_far (record { place = place; term = x }) ≡ one_link e wanted so_far (is_end (map link_of behind)) (link_of link)
      unfolding read_by
      with_is =
          ap (λ (p : Place). with_operand link.«infix» last wanted so_far (record { place = p; term = x })) place_is
          ∙ sym (ap (λ (r : Judged Plain). r >>= read_by last) read)
          ∙ step

      pub with_stops : (stop : JudgeStop) → JudgeStops stop (with_operand link.«infix» last wanted so_far (record { place = place; term = x })) → JudgeStops stop total
      with_stops stop h = same_stop stop _ _ here (stops stop _ after_link (same_stop stop _ _ with_is h))

      pub link_next : (more : RowSoFar) → with_operand link.«infix» last wanted so_far (record { place = place; term = x }) ≡ Ok more → row_from e wanted more (map link_of behind) ≡ total
      unfolding after_link
      link_next more h = sym (ap (λ (r : Judged RowSoFar). r >>= after_link) (sym with_is ∙ h)) ∙ here
