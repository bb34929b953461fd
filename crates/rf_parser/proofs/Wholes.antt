-- How what is parsed of a whole follows from what is parsed of its parts.
use Rattle.std.proofs.Common.{IfErr, Result, ◌≡◌, ◌⊎◌, ℕ, List, [], ◌++◌, Option, inl, inr, length, refl, sym, ap, ◌∙◌, subst, append_assoc}
use Rattle.rf_lexer.specs.declared.token.Kind.{Kind}
use Rattle.rf_lexer.specs.declared.token.Token.{Token}
use Rattle.rf_syntax.specs.Piece.{Piece, kinds_of}
use Rattle.rf_syntax.proofs.Joined.{kinds_joined}
use Rattle.rf_parser.specs.Fit.{Fits, token_kinds}
use Rattle.std.specs.Result.{IsErrAnd}
use Rattle.std.proofs.lemmas.Result.{err_from_is_err_and}
use Rattle.rf_failure.specs.declared.Failure.{Failure}
use Rattle.rf_failure.specs.declared.Failure.TheVariants.{Fault}
use Rattle.rf_parser.specs.Private.Parsing.{Halts, Parses, IsSame, IsStuck, Shares, StopsAt, first_kind, never}
use Rattle.rf_parser.proofs.Prefixes.{fits_joined, fits_kinds, fits_parts, halts_never, kinds_then, shares_as, shares_after, shares_first, shares_prefix, tokens_joined}

-- one part and another after it
abbrev pub pair : {A B : Type 0} → (A → List Piece) → (B → List Piece) → A × B → List Piece
pair pa pb p = pa p.0 ++ pb p.1

-- what follows the first part doesn't make it longer
abbrev pub Apart : {B : Type 0} → (Kind → Type 0) → (B → List Piece) → (Kind → Type 0) → Type 0
Apart {B} la pb l = (b : B) (more : List Kind) → Halts l more → Halts la (kinds_of (pb b) ++ more)

joined_twice : (ts fa r fb r' : List Token) → ts ≡ fa ++ r → r ≡ fb ++ r' → ts ≡ (fa ++ fb) ++ r'
joined_twice ts fa r fb r' e f = e ∙ ap (λ (x : List Token). fa ++ x) f ∙ sym (append_assoc fa fb r')

-- two parts' pieces share the prefixes, each its own
both_share : (fa fb rest : List Token) (ps qs : List Piece) (more : List Kind)
    → Shares (token_kinds (fa ++ fb)) (token_kinds rest) (kinds_of (ps ++ qs) ++ more)
    → Shares (token_kinds fa ++ token_kinds fb) (token_kinds rest) (kinds_of ps ++ (kinds_of qs ++ more))
both_share fa fb rest ps qs more s = shares_as _ _ _ _ _ _ (tokens_joined fa fb) refl (kinds_then ps qs more) s

first_shares : (fa fb rest after : List Token) (ps qs : List Piece) (more : List Kind) → after ≡ fb ++ rest
    → Shares (token_kinds (fa ++ fb)) (token_kinds rest) (kinds_of (ps ++ qs) ++ more)
    → Shares (token_kinds fa) (token_kinds after) (kinds_of ps ++ (kinds_of qs ++ more))
first_shares fa fb rest after ps qs more e s =
    shares_as _ _ _ _ _ _ refl (sym (tokens_joined fb rest) ∙ ap (λ (ts : List Token). token_kinds ts) (sym e)) refl
    (shares_prefix _ _ _ _ (both_share fa fb rest ps qs more s))

second_shares : (fa fb rest : List Token) (ps qs : List Piece) (more : List Kind) → kinds_of ps ≡ token_kinds fa
    → Shares (token_kinds (fa ++ fb)) (token_kinds rest) (kinds_of (ps ++ qs) ++ more)
    → Shares (token_kinds fb) (token_kinds rest) (kinds_of qs ++ more)
second_shares fa fb rest ps qs more e s = shares_after (token_kinds fa) (token_kinds fb) _ (kinds_of ps) _ e (both_share fa fb rest ps qs more s)

same_both : {A B : Type 0} (pa : A → List Piece) (pb : B → List Piece) (fa fb : List Token) (a x : A) (b y : B)
    → IsSame pa fa a x → IsSame pb fb b y → IsSame (pair pa pb) (fa ++ fb) (a, b) (x, y)
same_both pa pb fa fb a x b y h k = record {
  spelled = kinds_joined (pa x) (pb y) ∙ (let e = h.spelled in let f = k.spelled in cc) ∙ sym (tokens_joined fa fb);
  same = λ fits.
      let parts = fits_parts fa fb (pa x) (pb y) h.spelled fits in
      let e = h.same parts.0 in let f = k.same parts.1 in cc;
}

module _ {A B : Type 0} {pa : A → List Piece} {pb : B → List Piece} {la l : Kind → Type 0} where
  -- both parts are parsed
  pub parsed_then : {ts r r' : List Token} {a : A} {b : B} → Apart la pb l → Parses pa la ts a r → Parses pb l r b r' → Parses (pair pa pb) l ts (a, b) r'
  parsed_then {ts} {r} {r'} {a} {b} apart h k = record {
    prefix = h.prefix ++ k.prefix;
    joined = joined_twice _ _ _ _ _ h.joined k.joined;
    fits = fits_joined h.prefix k.prefix (pa a) (pb b) h.fits k.fits;
    only = λ other more halts s.
        let same_first = h.only other.0 (kinds_of (pb other.1) ++ more) (apart other.1 more halts)
        (first_shares h.prefix k.prefix r' r (pa other.0) (pb other.1) more k.joined s) in
        same_both pa pb h.prefix k.prefix a other.0 b other.1 same_first
        (k.only other.1 more halts (second_shares h.prefix k.prefix r' (pa other.0) (pb other.1) more same_first.spelled s));
  }

  -- the second part isn't parsed
  pub stuck_then : {ts r : List Token} {a : A} {left : ℕ} → Apart la pb l → Parses pa la ts a r → IsStuck pb l r left → IsStuck (pair pa pb) l ts left
  stuck_then {ts} {r} {a} {left} apart h k = record {
    prefix = h.prefix ++ k.prefix;
    rest = k.rest;
    joined = joined_twice _ _ _ _ _ h.joined k.joined;
    last = k.last;
    part = (a, k.part);
    tail = k.tail;
    begun = kinds_joined (pa a) (pb k.part)
        ∙ ap (λ (ks : List Kind). ks ++ kinds_of (pb k.part)) (fits_kinds h.prefix (pa a) h.fits)
        ∙ ap (λ (ks : List Kind). token_kinds h.prefix ++ ks) k.begun
        ∙ sym (append_assoc (token_kinds h.prefix) (token_kinds k.prefix) k.tail) ∙ ap (λ (ks : List Kind). ks ++ k.tail) (sym (tokens_joined h.prefix k.prefix));
    dead = λ other more halts s.
        let same_first = h.only other.0 (kinds_of (pb other.1) ++ more) (apart other.1 more halts)
        (first_shares h.prefix k.prefix k.rest r (pa other.0) (pb other.1) more k.joined s) in
        k.dead other.1 more halts (second_shares h.prefix k.prefix k.rest (pa other.0) (pb other.1) more same_first.spelled s);
  }

-- the first part isn't parsed; a second part stands for any
pub stuck_first : {A B : Type 0} {pa : A → List Piece} {la l : Kind → Type 0} {ts : List Token} {left : ℕ} (pb : B → List Piece)
    → B → Apart la pb l → IsStuck pa la ts left → IsStuck (pair pa pb) l ts left
stuck_first {pa = pa} pb b apart h = record {
  prefix = h.prefix;
  rest = h.rest;
  joined = h.joined;
  last = h.last;
  part = (h.part, b);
  tail = h.tail ++ kinds_of (pb b);
  begun = kinds_joined (pa h.part) (pb b) ∙ ap (λ (ks : List Kind). ks ++ kinds_of (pb b)) h.begun ∙ append_assoc (token_kinds h.prefix) h.tail (kinds_of (pb b));
  dead = λ other more halts s.
      h.dead other.0 (kinds_of (pb other.1) ++ more) (apart other.1 more halts)
      (shares_as _ _ _ _ _ _ refl refl (kinds_then (pa other.0) (pb other.1) more) s);
}

-- the same, where no kind makes the first part longer
module _ {A B : Type 0} {pa : A → List Piece} {pb : B → List Piece} {l : Kind → Type 0} where
  pub parsed_next : {ts r r' : List Token} {a : A} {b : B} → Parses pa never ts a r → Parses pb l r b r' → Parses (pair pa pb) l ts (a, b) r'
  parsed_next h k = parsed_then (λ b more x. halts_never (kinds_of (pb b) ++ more)) h k

  pub stuck_next : {ts r : List Token} {a : A} {left : ℕ} → Parses pa never ts a r → IsStuck pb l r left → IsStuck (pair pa pb) l ts left
  stuck_next h k = stuck_then (λ b more x. halts_never (kinds_of (pb b) ++ more)) h k

pub stuck_start : {A B : Type 0} {pa : A → List Piece} {l : Kind → Type 0} {ts : List Token} {left : ℕ} (pb : B → List Piece) → B → IsStuck pa never ts left → IsStuck (pair pa pb) l ts left
stuck_start pb b h = stuck_first pb b (λ b more x. halts_never (kinds_of (pb b) ++ more)) h

-- the whole begins with another kind than this one
abbrev pub Begins : {T : Type 0} → (T → List Piece) → (Kind → Type 0) → Option Kind → T → Type 0
Begins {T} pt l next t = (more : List Kind) → Halts l more → first_kind (kinds_of (pt t) ++ more) ≡ next → ⊥

-- the wholes that begin with a kind are made so of parts
pub record IsCase {A T : Type 0} (pa : A → List Piece) (la : Kind → Type 0) (pt : T → List Piece) (l : Kind → Type 0) (next : Option Kind) (make : A → T) : Type 0 where
  pub same : (a : A) → pt (make a) ≡ pa a
  pub ends : (more : List Kind) → Halts l more → Halts la more
  pub cases : (t : T) → ((a : A) × (make a ≡ t)) ⊎ Begins pt l next t

same_pieces : {A T : Type 0} (pa : A → List Piece) (pt : T → List Piece) (make : A → T) (a : A) (t : T) → ((b : A) → pt (make b) ≡ pa b) → make a ≡ t → pt t ≡ pa a
same_pieces pa pt make a t same e = ap pt (sym e) ∙ same a

case_same : {A T : Type 0} (pa : A → List Piece) (pt : T → List Piece) (make : A → T) (prefix : List Token) (a b : A) (t : T)
    → pt t ≡ pa b → make b ≡ t → IsSame pa prefix a b → IsSame pt prefix (make a) t
case_same pa pt make prefix a b t e f h = record {
  spelled = ap (λ (ps : List Piece). kinds_of ps) e ∙ h.spelled;
  same = λ fits. sym f ∙ ap make (h.same (subst (λ (ps : List Piece). Fits prefix ps) e fits));
}

case_shares : (prefix rest more : List Kind) (ps qs : List Piece) → ps ≡ qs → Shares prefix rest (kinds_of ps ++ more) → Shares prefix rest (kinds_of qs ++ more)
case_shares prefix rest more ps qs e s = shares_as _ _ _ _ _ _ refl refl (ap (λ (xs : List Piece). kinds_of xs ++ more) e) s

begins : (ts prefix rest : List Token) (kinds : List Kind) → ts ≡ prefix ++ rest → Shares (token_kinds prefix) (token_kinds rest) kinds → first_kind kinds ≡ first_kind (token_kinds ts)
begins ts prefix rest kinds e s =
    shares_first _ _ _ s ∙ ap first_kind (sym (tokens_joined prefix rest) ∙ ap (λ (xs : List Token). token_kinds xs) (sym e))

module _ {A T : Type 0} {pa : A → List Piece} {la : Kind → Type 0} {pt : T → List Piece} {l : Kind → Type 0} {make : A → T} where
  -- what is parsed of the parts is parsed of the whole
  pub parsed_as : {ts : List Token} {a : A} {r : List Token} → IsCase pa la pt l (first_kind (token_kinds ts)) make → Parses pa la ts a r → Parses pt l ts (make a) r
  parsed_as {ts} {a} {r} case h = record {
    prefix = h.prefix;
    joined = h.joined;
    fits = subst (λ (ps : List Piece). Fits h.prefix ps) (sym (case.same a)) h.fits;
    only = λ t more halts s. elim (case.cases t) [
      | inl made ↦ (let e = same_pieces pa pt make made.0 t case.same made.1 in
          case_same pa pt make h.prefix a made.0 t e made.1 (h.only made.0 more (case.ends more halts) (case_shares _ _ more (pt t) (pa made.0) e s)))
      | inr other ↦ absurd (other more halts (begins ts h.prefix r _ h.joined s))
    ];
  }

  pub stuck_as : {ts : List Token} {left : ℕ} → IsCase pa la pt l (first_kind (token_kinds ts)) make → IsStuck pa la ts left → IsStuck pt l ts left
  stuck_as {ts} {left} case h = record {
    prefix = h.prefix;
    rest = h.rest;
    joined = h.joined;
    last = h.last;
    part = make h.part;
    tail = h.tail;
    begun = ap (λ (ps : List Piece). kinds_of ps) (case.same h.part) ∙ h.begun;
    dead = λ t more halts s. elim (case.cases t) [
      | inl made ↦ (let e = same_pieces pa pt make made.0 t case.same made.1 in
          h.dead made.0 more (case.ends more halts) (case_shares _ _ more (pt t) (pa made.0) e s))
      | inr other ↦ other more halts (begins ts h.prefix h.rest _ h.joined s)
    ];
  }

module _ {T : Type 0} {pt : T → List Piece} {l : Kind → Type 0} where
  -- no part begins as the tokens do
  pub stuck_here : {ts : List Token} → T → ((t : T) → Begins pt l (first_kind (token_kinds ts)) t) → IsStuck pt l ts (length ts)
  stuck_here {ts} part none = record {
    prefix = [];
    rest = ts;
    joined = refl;
    last = refl;
    part = part;
    tail = kinds_of (pt part);
    begun = refl;
    dead = λ t more halts s. none t more halts (shares_first [] (token_kinds ts) _ s);
  }

  -- a part of no tokens; the others begin with another kind than the tokens
  pub parsed_nothing : {ts : List Token} (part : T) → pt part ≡ [] → ((t : T) → (t ≡ part) ⊎ Begins pt l (first_kind (token_kinds ts)) t) → Parses pt l ts part ts
  parsed_nothing {ts} part e cases = record {
    prefix = [];
    joined = refl;
    fits = subst (λ (ps : List Piece). Fits [] ps) (sym e) tt;
    only = λ t more halts s. elim (cases t) [
      | inl same ↦ (record { spelled = ap (λ (x : T). kinds_of (pt x)) same ∙ ap (λ (ps : List Piece). kinds_of ps) e; same = λ fits. same })
      | inr other ↦ absurd (other more halts (shares_first [] (token_kinds ts) _ s))
    ];
  }

  -- fewer kinds make the part longer than are avoided
  pub parsed_less : {less : Kind → Type 0} {ts : List Token} {t : T} {r : List Token} → ((more : List Kind) → Halts l more → Halts less more) → Parses pt less ts t r → Parses pt l ts t r
  parsed_less fewer h = record { prefix = h.prefix; joined = h.joined; fits = h.fits; only = λ other more halts s. h.only other more (fewer more halts) s }

  pub stuck_less : {less : Kind → Type 0} {ts : List Token} {left : ℕ} → ((more : List Kind) → Halts l more → Halts less more) → IsStuck pt less ts left → IsStuck pt l ts left
  stuck_less fewer h = record {
    prefix = h.prefix;
    rest = h.rest;
    joined = h.joined;
    last = h.last;
    part = h.part;
    tail = h.tail;
    begun = h.begun;
    dead = λ other more halts s. h.dead other more (fewer more halts) s;
  }

-- the stop that a function answers
pub stops : {T : Type 0} {pt : T → List Piece} {l : Kind → Type 0} {ts : List Token} {left : ℕ} → IsStuck pt l ts left → StopsAt pt l ts (Fault left)
stops {pt = pt} {l} {ts} {left} h = record { stuck = λ n e. subst (λ m. IsStuck pt l ts m) (cc e) h }

-- the stop that a function passes on from one that it calls
pub passed_on : {A T : Type 0} {pa : A → List Piece} {la : Kind → Type 0} {pt : T → List Piece} {l : Kind → Type 0} {ts us : List Token} {stop : Failure ℕ}
    → StopsAt pa la us stop → ((left : ℕ) → IsStuck pa la us left → IsStuck pt l ts left) → StopsAt pt l ts stop
passed_on h whole = record { stuck = λ left e. whole left (h.stuck left e) }

pub returned : {R : Type 0} {T : Type 0} {pt : T → List Piece} {l : Kind → Type 0} {ts : List Token} {stop : Failure ℕ} (result : Result R (Failure ℕ))
    → IsErrAnd result (λ e. e ≡ stop) → StopsAt pt l ts stop → IfErr result (λ e. StopsAt pt l ts e)
returned {pt = pt} {l} {ts} result from h =
    let p = err_from_is_err_and result from in
    subst (λ r. IfErr r (λ e. StopsAt pt l ts e)) (sym p.1) (subst (λ e. StopsAt pt l ts e) (sym p.2) h)
