use Rattle.mm_values.proofs.values.Values.make_place_for.Goals as goal

pub returns-in-PutList-clause-ok : goal.returns-in-PutList-clause-ok
returns-in-PutList-clause-ok c = rw c.in-PutList.is c.make_list.ensures.ok

pub returns-in-InsertValue-clause-ok : goal.returns-in-InsertValue-clause-ok
returns-in-InsertValue-clause-ok c = rw c.in-InsertValue.is c.make_list-in-InsertValue.ensures.ok
