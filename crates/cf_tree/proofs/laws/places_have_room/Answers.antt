use Rattle.cf_tree.proofs.PlacesFound.{found_has_room, place_has_room}
use Rattle.cf_tree.proofs.laws.places_have_room.Goals as goal

pub returns : goal.returns
returns c = record {
  meant = λ items path p t e. place_has_room items path p t e;
  found = λ items path parent name t e. found_has_room items path parent name t e;
}
