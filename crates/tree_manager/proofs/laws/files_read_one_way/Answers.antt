use Rattle.tree_manager.proofs.ExactLemmas.{files_read_as_one_list, one_payload_stops_replay, refused_files_read_as_none}
use Rattle.tree_manager.proofs.laws.files_read_one_way.Goals as goal

pub returns-clause-one_list : goal.returns-clause-one_list
returns-clause-one_list c = files_read_as_one_list

pub returns-clause-one_place : goal.returns-clause-one_place
returns-clause-one_place c = one_payload_stops_replay

pub returns-clause-refused : goal.returns-clause-refused
returns-clause-refused c = refused_files_read_as_none
