use Rattle.shelf_proofs.proofs.Algorithm1ForAll.{decides, is_safe, living_decides}
use Rattle.shelf_proofs.proofs.shelf.algorithm_1_for_all.Goals as goal

pub returns : goal.returns
returns c = record {
  safety = is_safe;
  termination = decides;
  living = living_decides;
}
