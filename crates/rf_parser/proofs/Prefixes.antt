-- Lists of tokens, pieces and kinds, and how they share a prefix.
use Rattle.std.proofs.Common.{◌≡◌, List, [], ◌∷◌, ◌++◌, Some, refl, sym, ap, ◌∙◌, append_assoc, subst}
use Rattle.std.proofs.lemmas.List.{map-append}
use Rattle.rf_lexer.specs.declared.token.Kind.{Kind}
use Rattle.rf_lexer.specs.declared.token.Token.{Token}
use Rattle.rf_syntax.specs.Piece.{Piece, kinds_of}
use Rattle.rf_syntax.proofs.Joined.{kinds_joined}
use Rattle.rf_parser.specs.Fit.{Fits, token_kinds}
use Rattle.rf_parser.specs.Private.Parsing.{Halts, Shares, first_kind, never}

pub tokens_joined : (xs ys : List Token) → token_kinds (xs ++ ys) ≡ token_kinds xs ++ token_kinds ys
tokens_joined xs ys = map-append (λ (t : Token). t.kind) xs ys

-- the kinds of two parts and of what follows
pub kinds_then : (xs ys : List Piece) (more : List Kind) → kinds_of (xs ++ ys) ++ more ≡ kinds_of xs ++ (kinds_of ys ++ more)
kinds_then xs ys more = ap (λ (ks : List Kind). ks ++ more) (kinds_joined xs ys) ∙ append_assoc (kinds_of xs) (kinds_of ys) more

pub halts_never : (more : List Kind) → Halts never more
halts_never [] = tt
halts_never (kind ∷ kinds) = λ h. h

same_after : (xs ys zs : List Kind) → xs ++ ys ≡ xs ++ zs → ys ≡ zs
same_after [] ys zs e = e
same_after (x ∷ xs) ys zs e = let rest : xs ++ ys ≡ xs ++ zs = cc in same_after xs ys zs rest

-- tokens that fit have the pieces' kinds
pub fits_kinds : (ts : List Token) (ps : List Piece) → Fits ts ps → kinds_of ps ≡ token_kinds ts
fits_kinds [] [] h = refl
fits_kinds [] (p ∷ ps) h = absurd h
fits_kinds (t ∷ ts) [] h = absurd h
fits_kinds (t ∷ ts) (p ∷ ps) h = let here : t.kind ≡ p.kind = h.0.kind in let rest = fits_kinds ts ps h.1 in cc

pub fits_joined : (xs ys : List Token) (ps qs : List Piece) → Fits xs ps → Fits ys qs → Fits (xs ++ ys) (ps ++ qs)
fits_joined [] ys [] qs h k = k
fits_joined [] ys (p ∷ ps) qs h k = absurd h
fits_joined (x ∷ xs) ys [] qs h k = absurd h
fits_joined (x ∷ xs) ys (p ∷ ps) qs h k = (h.0, fits_joined xs ys ps qs h.1 k)

pub fits_parts : (xs ys : List Token) (ps qs : List Piece) → kinds_of ps ≡ token_kinds xs → Fits (xs ++ ys) (ps ++ qs) → Fits xs ps × Fits ys qs
fits_parts [] ys [] qs e h = (tt, h)
fits_parts [] ys (p ∷ ps) qs e h = let no_kind : p.kind ∷ kinds_of ps ≡ [] = e in absurd cc
fits_parts (x ∷ xs) ys [] qs e h = let no_kind : [] ≡ x.kind ∷ token_kinds xs = e in absurd cc
fits_parts (x ∷ xs) ys (p ∷ ps) qs e h =
    let rest : kinds_of ps ≡ token_kinds xs = cc in
    let parts = fits_parts xs ys ps qs rest h.1 in
    ((h.0, parts.0), parts.1)

-- what shares a prefix begins as what it is shared with
pub shares_first : (prefix rest kinds : List Kind) → Shares prefix rest kinds → first_kind kinds ≡ first_kind (prefix ++ rest)
shares_first [] rest kinds s = ap first_kind s.joined ∙ s.same
shares_first (k ∷ prefix) rest kinds s = ap first_kind s.joined

first_after : (prefix xs ys : List Kind) → first_kind xs ≡ first_kind ys → first_kind (prefix ++ xs) ≡ first_kind (prefix ++ ys)
first_after [] xs ys e = e
first_after (k ∷ prefix) xs ys e = refl

-- what shares two prefixes shares the first one
pub shares_prefix : (prefix more rest kinds : List Kind) → Shares (prefix ++ more) rest kinds → Shares prefix (more ++ rest) kinds
shares_prefix prefix more rest kinds s = record {
  tail = more ++ s.tail;
  joined = s.joined ∙ append_assoc prefix more s.tail;
  same = first_after more s.tail rest s.same;
}

-- and after that the second one
pub shares_after : (prefix more rest xs ys : List Kind) → xs ≡ prefix → Shares (prefix ++ more) rest (xs ++ ys) → Shares more rest ys
shares_after prefix more rest xs ys e s = record {
  tail = s.tail;
  joined = same_after prefix ys (more ++ s.tail) (ap (λ (ks : List Kind). ks ++ ys) (sym e) ∙ s.joined ∙ append_assoc prefix more s.tail);
  same = s.same;
}

pub shares_as : (prefix other rest rest' kinds kinds' : List Kind) → prefix ≡ other → rest ≡ rest' → kinds ≡ kinds' → Shares prefix rest kinds → Shares other rest' kinds'
shares_as prefix other rest rest' kinds kinds' e f g s = record {
  tail = s.tail;
  joined = sym g ∙ s.joined ∙ ap (λ (ks : List Kind). ks ++ s.tail) e;
  same = s.same ∙ ap first_kind f;
}

-- nothing is before the prefix
pub shares_nothing : (rest kinds : List Kind) → Shares [] rest kinds → first_kind kinds ≡ first_kind rest
shares_nothing rest kinds s = ap first_kind s.joined ∙ s.same

pub append_nil : {A : Type 0} (xs : List A) → xs ++ [] ≡ xs
append_nil [] = refl
append_nil (x ∷ xs) = ap (λ ys. x ∷ ys) (append_nil xs)

-- where more kinds are avoided, fewer are
pub halts_fewer : (less l : Kind → Type 0) (more : List Kind) → ((k : Kind) → less k → l k) → Halts l more → Halts less more
halts_fewer less l [] fewer h = tt
halts_fewer less l (k ∷ ks) fewer h = λ e. h (fewer k e)

-- kinds that halt don't begin with one that is avoided
pub halts_not : (l : Kind → Type 0) (k : Kind) (more : List Kind) → Halts l more → l k → first_kind more ≡ Some k → ⊥
halts_not l k [] h e f = cc
halts_not l k (x ∷ xs) h e f = let same : k ≡ x = cc in h (subst l same e)
