-- The small meshes worked out, by the second engine (02, L10; 01, "Small meshes worked out").
use mathlib.Core.Path.{◌≡◌, refl}
use mathlib.Core.List.{map}
use Rattle.split.specs.Split.{first, second}
use Rattle.split.specs.Row.{read_tag, edge_of, deeper, below, first_of, second_of}
use Rattle.tables.specs.Mesh.{up_to}
use Rattle.forest.specs.Start.{arranged}
use Rattle.intake.specs.Search.{any, free, first as search}
use Rattle.intake.specs.Causes.{has as held}
use Rattle.opening.specs.Colours.{taken, colours, largest}
use Rattle.opening.specs.Order.{sorted, root_of}
use Rattle.opening.specs.Opening.{opened_mesh}
use Rattle.sound.specs.Forest.{element_within}
use Rattle.run.specs.Run.{has, same_ends, cut}
use Rattle.run.specs.Worked.{worked, splits_below}
use Rattle.completion.specs.Completion.{parents_in, ripe, halves, split_one, split_marks}
use Rattle.completion.specs.Compute.{looped, complete_calls}
use Rattle.completion.specs.Worked.{computed, expected, eighth, eighth_table}

-- W1 to W10: the same split elements and counts as by the recursive engine
pub worked_out : map computed worked ≡ map expected worked
unfolding worked computed expected splits_below complete_calls looped split_marks split_one ripe parents_in halves cut same_ends has element_within opened_mesh root_of sorted largest colours taken free any search held arranged up_to first_of second_of below deeper edge_of read_tag first second
worked_out = refl

-- W8 has rows of its own order
pub eighth_out : eighth ≡ eighth_table
unfolding eighth eighth_table complete_calls looped split_marks split_one ripe parents_in halves cut same_ends has opened_mesh root_of sorted largest colours taken free any search held arranged up_to first_of second_of below deeper edge_of read_tag first second
eighth_out = refl
