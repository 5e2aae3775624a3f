-- The small meshes coarsened come out as the table says.
use mathlib.Core.Path.{◌≡◌, refl}
use mathlib.Core.List.{map}
use Rattle.split.specs.Row.{read_tag}
use Rattle.tables.specs.Mesh.{up_to}
use Rattle.intake.specs.Search.{any, count}
use Rattle.sound.specs.Follows.{split_vertex}
use Rattle.coarsen_theory.specs.Dropping.{leaf_now, blocks, droppable, drop_one, drop_all, passed_over}
use Rattle.coarsen_theory.specs.Thinned.{stays, keeps, sift, new_child, thin_row, thin_record, thinned, map_of}
use Rattle.coarsen_theory.specs.Worked.{Case, worked, computed}

pub worked_out : map computed worked ≡ map (λ (c : Case). c.outcome) worked
unfolding worked computed thinned thin_record thin_row new_child sift keeps stays map_of up_to any count drop_all drop_one droppable blocks leaf_now split_vertex passed_over read_tag
worked_out = refl
