-- The offsets of loose variables.
use Rattle.std.proofs.Common.{◌≡◌, ◌<◌, ◌+◌, ◌∙◌, ℕ, suc, Bool, true, false, not, List, [], ◌∷◌, ◌++◌, length, map, filter, take, get_or, Some, arith, refl, sym, ap, inl, inr}
use Rattle.std.specs.Prelude.{◌==◌, ◌&&◌, ◌||◌, if◌then◌else◌}
use Rattle.std.specs.BTreeMap.{BTreeMap, get_by}
use Rattle.std.specs.Cmp.Lexicographic.{slice_cmp}
use Rattle.std.specs.List.{flat_map, list_any}
use Rattle.std.specs.Map.{update}
use Rattle.std.specs.Option.{unwrap_or}
use Rattle.std.specs.Ordering.{nat_cmp}
use Rattle.std.specs.Str.{bytes_eq}
use Rattle.std.proofs.lemmas.Bool.{cases_Bool, eq-eqb}
use Rattle.std.proofs.lemmas.List.{length-map, length-take-le, take_more}
use Rattle.std.proofs.lemmas.List.Elements.{filter-append}
use Rattle.std.proofs.lemmas.List.Folds.{list_any-append}
use Rattle.std.proofs.lemmas.Slice.Eq.{bytes_eq-Decides}
use denote.Ref.{Bor}
use Rattle.rf_syntax.specs.declared.name.Name.{Name}
use Rattle.rf_syntax.specs.declared.predicate.BodyLiteral.{BodyLiteral}
use Rattle.rf_syntax.specs.declared.predicate.Param.{Param}
use Rattle.rf_names.specs.Bodies.{clause_names, is_loose, loose_variables}
use Rattle.rf_names.specs.Declarations.{Declared, is_among, is_atom_argument, param_names}
use Rattle.rf_names.specs.Offsets.{least_of, offset_if}
use Rattle.rf_names.specs.LookUp.{first_of_each}
use Rattle.rf_names.specs.Texts.{is_blank, reads}
use Rattle.rf_clause_rules.specs.Occurrences.{after_arguments, after_literal, after_literals, is_loose_occurrence, named_among, named_in, occurrence_in, occurrence_of}
use Rattle.rf_clause_rules.specs.declared.occurrence.Occurrence.{Occurrence}
use Rattle.rf_clause_rules.specs.declared.occurrence.Occurrence.TheVariants.{Nowhere, Inside, Loose, Bound}
use Rattle.rf_names.proofs.MapLemmas.{map_one_more}
use Rattle.rf_clause_rules.proofs.OccurrenceLemmas.{loose_occurrence}

-- to name it twice in one literal says no more
named_twice : (k : ℕ) (negated : Bool) (o : Occurrence) → named_in k negated (named_in k negated o)
    ≡ named_in k negated o
named_twice k false o = refl
named_twice k true Nowhere = let same : (k == k) ≡ true = eq-eqb k k refl in rw same refl
named_twice k true (Inside j) =
    elim (cases_Bool (j == k)) [ inl e ↦ rw (e, e) refl | inr e ↦ rw e refl ]
named_twice k true Loose = refl
named_twice k true Bound = refl

-- the one name that is added
pub name_added : (old new : BTreeMap (Bor (List ℕ)) Occurrence) (k : ℕ) (negated : Bool)
    (name : Name) (key text : List ℕ) (o w : Occurrence) →
    key ≡ name.text → o ≡ occurrence_in old key → w ≡ named_in k negated o →
    get_by (λ s. slice_cmp nat_cmp text s.now) new
    ≡ update bytes_eq (λ ds. get_by (λ s. slice_cmp nat_cmp ds s.now) old) key (Some w) text →
    occurrence_in new text ≡ (if reads text name then named_in k negated (occurrence_in old text)
    else occurrence_in old text)
name_added old new k negated name key text o w is was now updated =
    elim (cases_Bool (bytes_eq key text)) [
      | inl same ↦ (let hit : reads text name ≡ true = ap (λ t. bytes_eq t text) (sym is) ∙ same in
          let here : occurrence_in new text ≡ w = ap (λ v. unwrap_or v Nowhere) updated
          ∙ rw same refl in
          let before : o ≡ occurrence_in old text =
          was ∙ ap (occurrence_in old) ((bytes_eq-Decides key text).0 same) in
          here ∙ now ∙ ap (named_in k negated) before
          ∙ ap (λ b. if b then named_in k negated (occurrence_in old text)
          else occurrence_in old text) (sym hit))
      | inr apart ↦ (let miss : reads text name ≡ false = ap (λ t. bytes_eq t text) (sym is) ∙ apart in
          let here : occurrence_in new text ≡ occurrence_in old text =
          ap (λ v. unwrap_or v Nowhere) updated ∙ rw apart refl in
          here ∙ ap (λ b. if b then named_in k negated (occurrence_in old text)
          else occurrence_in old text) (sym miss))
    ]

-- names that are joined
named_or : (k : ℕ) (negated : Bool) (o : Occurrence) (a b : Bool) →
    (if a || b then named_in k negated o else o)
    ≡ (if b then named_in k negated (if a then named_in k negated o else o)
    else (if a then named_in k negated o else o))
named_or k negated o true true = sym (named_twice k negated o)
named_or k negated o true false = refl
named_or k negated o false true = refl
named_or k negated o false false = refl

named_join : (k : ℕ) (negated : Bool) (xs ys : List Name) (text : List ℕ) (o : Occurrence) →
    named_among k negated (xs ++ ys) text o
    ≡ named_among k negated ys text (named_among k negated xs text o)
named_join k negated xs ys text o =
    ap (λ b. if b then named_in k negated o else o) (list_any-append (reads text) xs ys)
    ∙ named_or k negated o (list_any (reads text) xs) (list_any (reads text) ys)

-- arguments of the body of a predicate
module _ (d : Declared) (params : List Param) (k : ℕ) (negated : Bool) where
  -- an argument that stands for an atom
  pub atom_added : (name : Name) (text : List ℕ) (o : Occurrence) →
      is_atom_argument d.atoms params name ≡ true →
      o ≡ after_arguments d params k negated (name ∷ []) text o
  atom_added name text o atom = rw atom refl

  -- one that stands for a variable
  pub variable_added : (name : Name) (text : List ℕ) (o new : Occurrence) →
      is_atom_argument d.atoms params name ≡ false →
      new ≡ (if reads text name then named_in k negated o else o) →
      new ≡ after_arguments d params k negated (name ∷ []) text o
  variable_added name text o new variable step =
      step ∙ rw variable (ap (λ b. if b then named_in k negated o else o) (sym (or_false (reads text name))))
    where
      or_false : (b : Bool) → (b || false) ≡ b
      or_false true = refl
      or_false false = refl

  -- arguments that are joined
  arguments_join : (xs ys : List Name) (text : List ℕ) (o : Occurrence) →
      after_arguments d params k negated (xs ++ ys) text o
      ≡ after_arguments d params k negated ys text (after_arguments d params k negated xs text o)
  arguments_join xs ys text o =
      let kept : Name → Bool = λ n. not (is_atom_argument d.atoms params n) in
      ap (λ ns. named_among k negated ns text o) (filter-append kept xs ys)
      ∙ named_join k negated (filter kept xs) (filter kept ys) text o

  -- a loop's step
  pub arguments_more : (names : List Name) (i : ℕ) (name : Name) (text : List ℕ) (o now new : Occurrence) →
      i < length names → name ≡ get_or names i name →
      now ≡ after_arguments d params k negated (take i names) text o →
      new ≡ after_arguments d params k negated (name ∷ []) text now →
      new ≡ after_arguments d params k negated (take (i + 1) names) text o
  arguments_more names i name text o now new below is before step =
      step ∙ ap (after_arguments d params k negated (name ∷ []) text) before
      ∙ ap (λ n. after_arguments d params k negated (n ∷ []) text (after_arguments d params k negated (take i names) text o)) is
      ∙ sym (arguments_join (take i names) (get_or names i name ∷ []) text o)
      ∙ ap (λ ns. after_arguments d params k negated ns text o) (sym (take_more names i name below))

  -- two of them
  pub arguments_both : (a b : Name) (text : List ℕ) (o first second : Occurrence) →
      first ≡ after_arguments d params k negated (a ∷ []) text o →
      second ≡ after_arguments d params k negated (b ∷ []) text first →
      second ≡ after_arguments d params k negated (a ∷ b ∷ []) text o
  arguments_both a b text o first second one two =
      two ∙ ap (after_arguments d params k negated (b ∷ []) text) one
      ∙ sym (arguments_join (a ∷ []) (b ∷ []) text o)

-- one literal more
module _ (d : Declared) (params : List Param) where
  after_snoc : (k m : ℕ) (ls : List BodyLiteral) (l : BodyLiteral) (text : List ℕ) (o : Occurrence) →
      m ≡ k + length ls →
      after_literals d params k (ls ++ l ∷ []) text o
      ≡ after_literal d params m l text (after_literals d params k ls text o)
  after_snoc k m [] l text o e = let same : k ≡ m = omega arith in
      ap (λ n. after_literal d params n l text o) same
  after_snoc k m (x ∷ ls) l text o e =
      after_snoc (suc k) m ls l text (after_literal d params k x text o) (omega arith)

  pub after_more : {X : Type 0} (f : X → BodyLiteral) (xs : List X) (i : ℕ) (x : X) (text : List ℕ)
      (o now new : Occurrence) →
      i < length xs → x ≡ get_or xs i x → now ≡ after_literals d params 0 (map f (take i xs)) text o →
      new ≡ after_literal d params i (f x) text now →
      new ≡ after_literals d params 0 (map f (take (i + 1) xs)) text o
  after_more f xs i x text o now new below is before step =
      let long : length (map f (take i xs)) ≡ length (take i xs) = length-map (take i xs) f in
      let short : length (take i xs) ≡ i = length-take-le i xs (omega arith) in
      step ∙ ap (after_literal d params i (f x) text) before
      ∙ sym (after_snoc 0 i (map f (take i xs)) (f x) text o (omega arith))
      ∙ ap (λ ls. after_literals d params 0 ls text o) (sym (map_one_more f xs i x below is))

-- the offsets of those that pass
filtered_offsets : (p q : Name → Bool) → ((n : Name) → p n ≡ q n) → (ns : List Name) →
    flat_map (λ n. offset_if (p n) n.at) ns ≡ map (λ v. v.at) (filter q ns)
filtered_offsets p q same [] = refl
filtered_offsets p q same (n ∷ ns) =
    let rest = filtered_offsets p q same ns in
    elim (cases_Bool (q n)) [
      | inl e ↦ (let here : p n ≡ true = same n ∙ e in rw (here, e) (ap (λ ats. n.at ∷ ats) rest))
      | inr e ↦ (let here : p n ≡ false = same n ∙ e in rw (here, e) rest)
    ]

pub loose_least : (d : Declared) (params : List Param) (clause : List BodyLiteral)
    (occurrences : BTreeMap (Bor (List ℕ)) Occurrence) (firsts : List Name) →
    ((text : List ℕ) → occurrence_in occurrences text ≡ occurrence_of d params clause text) →
    firsts ≡ first_of_each [] (clause_names d params clause) →
    least_of (flat_map (λ n. offset_if (not (is_blank n)
    && (not (is_among (param_names params) n) && is_loose_occurrence (occurrence_in occurrences n.text))) n.at) firsts)
    ≡ least_of (map (λ v. v.at) (loose_variables d params clause))
loose_least d params clause occurrences firsts each are =
    let test : Name → Bool = λ n. not (is_blank n)
    && (not (is_among (param_names params) n) && is_loose_occurrence (occurrence_in occurrences n.text)) in
    let same : (n : Name) → test n ≡ is_loose d params clause n =
    λ n. ap (λ o. not (is_blank n) && (not (is_among (param_names params) n) && is_loose_occurrence o)) (each n.text)
    ∙ ap (λ b. not (is_blank n) && (not (is_among (param_names params) n) && b)) (loose_occurrence d params n.text clause) in
    ap least_of (filtered_offsets test (is_loose d params clause) same firsts)
    ∙ ap (λ ns. least_of (map (λ v. v.at) (filter (is_loose d params clause) ns))) are
