-- The variables of clauses, and what clauses call.
use Rattle.std.specs.Prelude.{List, [], ◌∷◌, Bool, false, ◌&&◌, not, ◌++◌, if◌then◌else◌, ℕ, ◌||◌, nat_lt, count_by, filter, Option, None, Some, true, length, ◌==◌, position}
use Rattle.std.specs.List.{flat_map, list_any, list_all}
use Rattle.rf_syntax.specs.declared.name.Name.{Name}
use Rattle.rf_syntax.specs.declared.predicate.Param.{Param}
use Rattle.rf_syntax.specs.declared.predicate.BodyLiteral.{BodyLiteral}
use Rattle.rf_syntax.specs.declared.predicate.BodyLiteral.TheVariants.{Call, Same, Differ}
use Rattle.rf_problem.specs.declared.symbol.Symbol.TheVariants.{Predicate as Defined}
use Rattle.rf_finite.specs.Walks.{walk_below}
use Rattle.rf_names.specs.Texts.{is_blank, reads}
use Rattle.rf_names.specs.LookUp.{first_of_each, literal_symbols, sense_of, predicate_decl_at, is_number, the_number, object_named}
use Rattle.rf_names.specs.declared.sense.Sense.{Sense}
use Rattle.rf_names.specs.declared.sense.Sense.TheVariants.{One}
use Rattle.rf_problem.specs.declared.predicate.Term.{Term}
use Rattle.rf_problem.specs.declared.predicate.Term.TheVariants.{Var, Atom}
use Rattle.rf_names.specs.Declarations.{Declared, argument_names, is_atom_argument, param_names}

-- the variables that a literal of a predicate with these parameters names, in order: its arguments that aren't atoms
abbrev pub literal_names : Declared → List Param → BodyLiteral → List Name
literal_names d params literal = filter (λ n. not (is_atom_argument d.atoms params n)) (argument_names literal)

-- those that a clause names
abbrev pub clause_names : Declared → List Param → List BodyLiteral → List Name
clause_names d params clause = flat_map (literal_names d params) clause

-- whether a `!` stands before it; comparisons have none
abbrev pub is_negated : BodyLiteral → Bool
is_negated (Call negated symbol closure args) = negated
is_negated (Same a b) = false
is_negated (Differ a b) = false

-- the first name in a literal, and in a clause
abbrev pub first_name : BodyLiteral → Name
first_name (Call negated symbol closure args) = symbol.name
first_name (Same a b) = a
first_name (Differ a b) = a

-- whether a name stands for one of these variables: it is the name of one, and isn't `_`
abbrev pub is_variable_of : List Name → Name → Bool
is_variable_of known name = not (is_blank name) && list_any (reads name.text) known

-- the variables after a name: each `_` is one of its own, and so is a name where it occurs first
abbrev pub with_variable : List Name → Name → List Name
with_variable known name = if is_variable_of known name then known else known ++ name ∷ []

-- the variables after these names
abbrev pub with_variables : List Name → List Name → List Name
with_variables known [] = known
with_variables known (n ∷ ns) = with_variables (with_variable known n) ns

-- the variables of a clause, each by its first name: the parameters, then the others in the order in
-- which they occur first
abbrev pub clause_variables : Declared → List Param → List BodyLiteral → List Name
clause_variables d params clause = with_variables (param_names params) (clause_names d params clause)

-- whether a literal names the variable of this name
abbrev pub names_variable : Declared → List Param → List ℕ → BodyLiteral → Bool
names_variable d params text literal = list_any (reads text) (literal_names d params literal)

-- whether a name is that of a variable that can't be quantified: it isn't a parameter, each literal that
-- names it is negated, and there are several of them
abbrev pub is_loose : Declared → List Param → List BodyLiteral → Name → Bool
is_loose d params clause name =
    not (is_blank name)
    && (not (list_any (reads name.text) (param_names params))
    && (list_all (λ l. not (names_variable d params name.text l) || is_negated l) clause
    && nat_lt 1 (count_by (names_variable d params name.text) clause)))

-- such variables, each by its first name
abbrev pub loose_variables : Declared → List Param → List BodyLiteral → List Name
loose_variables d params clause = filter (is_loose d params clause) (first_of_each [] (clause_names d params clause))

-- the predicate that a symbol stands for, where it is one
abbrev pub predicate_of : Sense → Option ℕ
predicate_of (One (Defined q)) = Some q
predicate_of _ = None

-- the predicate that a literal calls
abbrev pub called_by : Declared → BodyLiteral → Option ℕ
called_by d (Call negated symbol closure args) = predicate_of (sense_of (literal_symbols d symbol))
called_by d (Same a b) = None
called_by d (Differ a b) = None

-- whether a literal of predicate p calls predicate q
abbrev pub calls_directly : Declared → ℕ → ℕ → Bool
calls_directly d p q =
    list_any (λ clause. list_any (λ l. is_number q (called_by d l)) clause) (predicate_decl_at d p).clauses

-- whether p is called by q, directly or through others: a walk leads from p over callers to q
abbrev pub is_called_from : Declared → ℕ → ℕ → Bool
is_called_from d p q = walk_below (λ x y. calls_directly d y x) (λ x. true) (length d.predicates) p q

-- whether calls lead from predicate q to predicate p, or the two are the same
abbrev pub leads_to : Declared → ℕ → ℕ → Bool
leads_to d q p = (q == p) || is_called_from d p q

-- the number of the variable that a name stands for, after these variables
abbrev pub variable_number : List Name → Name → ℕ
variable_number known name =
    if is_variable_of known name then the_number (position (reads name.text) known) else length known

-- the term that an argument stands for, after these variables: an atom, or a variable
abbrev pub term_of : Declared → List Param → List Name → Name → Term
term_of d params known name =
    if is_atom_argument d.atoms params name
    then Atom (the_number (object_named d name.text))
    else Var (variable_number known name)

-- the variables after an argument
abbrev pub with_argument : Declared → List Param → List Name → Name → List Name
with_argument d params known name =
    if is_atom_argument d.atoms params name then known else with_variable known name

-- the terms that arguments stand for, one after another
abbrev pub terms_of : Declared → List Param → List Name → List Name → List Term
terms_of d params known [] = []
terms_of d params known (n ∷ ns) = term_of d params known n ∷ terms_of d params (with_argument d params known n) ns
