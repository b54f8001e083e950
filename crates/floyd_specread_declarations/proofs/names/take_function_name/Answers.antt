use Rattle.floyd_specread_declarations.proofs.names.take_function_name.Goals as goal

pub returns-clause-exact : goal.returns-clause-exact
returns-clause-exact c = rw c.in_ok-found.ensures at c.take.ensures.exact
