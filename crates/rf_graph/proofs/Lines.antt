-- The lines of nodes and edges: each is one line, and stands for one node or edge.
use Rattle.std.proofs.Common.{◌≡◌, ◌≢◌, ◌∙◌, ℕ, zero, suc, ◌<◌, ◌/◌, ◌%◌, ◌^◌, false, List, [], ◌∷◌, ◌++◌, length, get_or, refl, sym, ap, subst, arith, rules, append_assoc, codes, inl, inr, All, length-append, IfNone, Option, Some, None}
use Rattle.std.specs.Prelude.{◌==◌, Contains, decimal}
use Rattle.std.specs.Fmt.{digit_glyph, digits, digits_onto}
use Rattle.std.proofs.Math.Seq.{get_or-append_seam}
use Rattle.std.proofs.lemmas.Bool.{cases_Bool}
use Rattle.std.proofs.lemmas.Bool.Decides.{nat_tests}
use Rattle.std.proofs.lemmas.Fmt.{decimal_injective}
use Rattle.std.proofs.lemmas.List.Elements.{All-from_recursion, All-append, All-cons, All-nil}
use Rattle.rf_text.specs.Line.{IsLine, NoBreak}
use Rattle.rf_text.specs.Written.{IsWritten}
use Rattle.rf_text.proofs.LineLemmas.{NoBreak-break, line_of, one_line}
use Rattle.rf_text.proofs.WrittenLemmas.{one_written}
use Rattle.rf_problem.specs.Classes.{class_at, no_class}
use Rattle.rf_problem.specs.declared.problem.Problem.{Problem}
use Rattle.rf_graph.specs.declared.graph.Edge.{Edge}
use Rattle.rf_graph.specs.declared.graph.Node.{Node}
use Rattle.rf_graph.specs.Document.{class_name, edge_line, node_line, object_name, reference_name}
use Rattle.rf_graph.specs.Graph.{FitsEdge, FitsNode}
use Rattle.rf_graph.specs.Names.{IsLastWord, NoSpace}
use Rattle.rf_graph.proofs.ProblemNames.{CanBeQuoted-class, NoBreak-class, NoBreak-object, NoBreak-reference, class_name-read, one_class, one_object, one_reference}

-- decimal spellings have digits alone
abbrev pub IsDigits : List ℕ → Type 0
IsDigits bytes = All (λ b. 47 < b) bytes

glyph_above : (d : ℕ) → d < 10 → 47 < digit_glyph false d
glyph_above d h = grind (arith, nat_tests)

digits_above : (k n : ℕ) (acc : List ℕ) → IsDigits acc → IsDigits (digits_onto k 10 false n acc)
digits_above zero n acc above = above
digits_above (suc k) n acc above =
    let digit : 47 < digit_glyph false (n % 10) = glyph_above (n % 10) (omega arith) in
    let more = All-cons (λ b. 47 < b) (digit_glyph false (n % 10)) acc digit above in
    elim (cases_Bool (n / 10 == 0)) [
      | inl last ↦ rw last more
      | inr further ↦ rw further (digits_above k (n / 10) (digit_glyph false (n % 10) ∷ acc) more)
    ]

pub IsDigits-decimal : (n : ℕ) → IsDigits (decimal n)
unfolding digits
IsDigits-decimal n = digits_above 64 n [] (All-nil (λ b. 47 < b))

pub NoSpace-decimal : (n : ℕ) → NoSpace (decimal n)
NoSpace-decimal n k d h e = let above = IsDigits-decimal n k d h in omega (arith, above, e)

NoBreak-decimal : (n : ℕ) → NoBreak (decimal n)
NoBreak-decimal n k d h e = let above = IsDigits-decimal n k d h in omega (arith, above, e)

NoSpace-tail : (c : ℕ) (cs : List ℕ) → NoSpace (c ∷ cs) → NoSpace cs
NoSpace-tail c cs whole k d h = whole (suc k) d (omega arith)

-- bytes with a space have one
pub NoSpace-space : (a r : List ℕ) → NoSpace (a ++ 32 ∷ r) → ⊥
NoSpace-space a r whole = whole (length a) 0 (omega (arith, length-append a (32 ∷ r))) (get_or-append_seam a 32 r 0)

-- where the last space stands is the bytes' own
pub one_last : (a b r s : List ℕ) → NoSpace r → NoSpace s → a ++ 32 ∷ r ≡ b ++ 32 ∷ s → (a ≡ b) × (r ≡ s)
one_last [] [] r s nr ns e = (refl, cc)
one_last [] (d ∷ b) r s nr ns e =
    let tails : r ≡ b ++ 32 ∷ s = cc in
    absurd (NoSpace-space b s (subst NoSpace tails nr))
one_last (c ∷ a) [] r s nr ns e =
    let tails : s ≡ a ++ 32 ∷ r = cc in
    absurd (NoSpace-space a r (subst NoSpace tails ns))
one_last (c ∷ a) (d ∷ b) r s nr ns e =
    let tails : a ++ 32 ∷ r ≡ b ++ 32 ∷ s = cc in
    let ih = one_last a b r s nr ns tails in
    let heads : c ≡ d = cc in
    let same : a ≡ b = ih.0 in
    (cc, ih.1)

-- what stands after the word that begins a line
after_node : (xs ys : List ℕ) → codes "node " ++ xs ≡ codes "node " ++ ys → xs ≡ ys
after_node xs ys e = cc

after_edge : (xs ys : List ℕ) → codes "edge " ++ xs ≡ codes "edge " ++ ys → xs ≡ ys
after_edge xs ys e = cc

-- the name of a class before a space, as it is split off
pub IsWritten-class :
    (p : Problem) (c : ℕ) (bytes tail : List ℕ) → c < length p.classes → bytes ≡ class_name p c ++ 32 ∷ tail →
    IsWritten bytes (class_at p.classes c).name (32 ∷ tail)
IsWritten-class p c bytes tail h e =
    record { named = CanBeQuoted-class p c h; ended = refl; joined = e ∙ ap (λ n. n ++ 32 ∷ tail) (class_name-read p c no_class h) }

-- nodes that fit and have the same line are the same
pub one_node : (p : Problem) (n m : Node) → FitsNode p n → FitsNode p m → node_line p n ≡ node_line p m → n ≡ m
one_node p n m fn fm e =
    let names = after_node (class_name p n.class ++ 32 ∷ object_name p n.origin) (class_name p m.class ++ 32 ∷ object_name p m.origin) e in
    let whole = ap (λ x. x ++ 32 ∷ object_name p n.origin) (sym (class_name-read p n.class no_class fn.class)) ∙ names ∙ ap (λ x. x ++ 32 ∷ object_name p m.origin) (class_name-read p m.class no_class fm.class) in
    let parts = one_written (class_at p.classes n.class).name (class_at p.classes m.class).name (32 ∷ object_name p n.origin) (32 ∷ object_name p m.origin)
    (CanBeQuoted-class p n.class fn.class) (CanBeQuoted-class p m.class fm.class) refl refl whole in
    let tails : 32 ∷ object_name p n.origin ≡ 32 ∷ object_name p m.origin = parts.1 in
    let class : n.class ≡ m.class = one_class p n.class m.class fn.class fm.class parts.0 in
    let origin : n.origin ≡ m.origin = one_object p n.origin m.origin fn.origin fm.origin (cc tails) in
    λ i. record { class = class i; origin = origin i }

-- the line of an edge in its words
pub edge_line-words :
    (p : Problem) (e : Edge) → edge_line p e ≡ codes "edge " ++ ((reference_name p e.reference ++ 32 ∷ decimal e.from) ++ 32 ∷ decimal e.to)
edge_line-words p e = ap (λ bytes. codes "edge " ++ bytes) (sym (append_assoc (reference_name p e.reference) (32 ∷ decimal e.from) (32 ∷ decimal e.to)))

-- the words of a line of an edge are the line's own
pub edge_words :
    (p : Problem) (e : Edge) (line tail prefix to_word name from_word : List ℕ) → line ≡ codes "edge " ++ tail → IsLastWord tail prefix to_word →
    IsLastWord prefix name from_word → line ≡ edge_line p e → (name ≡ reference_name p e.reference) × (from_word ≡ decimal e.from) × (to_word ≡ decimal e.to)
edge_words p e line tail prefix to_word name from_word begun last before spelled =
    let words = after_edge tail ((reference_name p e.reference ++ 32 ∷ decimal e.from) ++ 32 ∷ decimal e.to) (sym begun ∙ spelled ∙ edge_line-words p e) in
    let outer = one_last prefix (reference_name p e.reference ++ 32 ∷ decimal e.from) to_word (decimal e.to) last.whole (NoSpace-decimal e.to) (sym last.joined ∙ words) in
    let inner = one_last name (reference_name p e.reference) from_word (decimal e.from) before.whole (NoSpace-decimal e.from) (sym before.joined ∙ outer.0) in
    (inner.0, inner.1, outer.1)

-- edges that fit and have the same line are the same
pub one_edge :
    (p : Problem) (nodes : ℕ) (e f : Edge) → nodes < 2 ^ 64 → FitsEdge p nodes e → FitsEdge p nodes f → edge_line p e ≡ edge_line p f → e ≡ f
one_edge p nodes e f few fe ff same =
    let last : IsLastWord ((reference_name p e.reference ++ 32 ∷ decimal e.from) ++ 32 ∷ decimal e.to) (reference_name p e.reference ++ 32 ∷ decimal e.from) (decimal e.to) =
    record { joined = refl; whole = NoSpace-decimal e.to } in
    let before : IsLastWord (reference_name p e.reference ++ 32 ∷ decimal e.from) (reference_name p e.reference) (decimal e.from) =
    record { joined = refl; whole = NoSpace-decimal e.from } in
    let words = edge_words p f (edge_line p e) _ _ _ _ _ (edge_line-words p e) last before same in
    let a = fe.from_node in let b = fe.to_node in let c = ff.from_node in let d = ff.to_node in
    let reference : e.reference ≡ f.reference = one_reference p e.reference f.reference fe.reference ff.reference words.0 in
    let from : e.from ≡ f.from = decimal_injective e.from f.from (omega (arith, a, few)) (omega (arith, c, few)) words.1 in
    let to : e.to ≡ f.to = decimal_injective e.to f.to (omega (arith, b, few)) (omega (arith, d, few)) words.2 in
    λ i. record { reference = reference i; from = from i; to = to i }

-- no line is both, and none of them is the end
pub end_not_node : (p : Problem) (n : Node) → codes "end" ≡ node_line p n → ⊥
end_not_node p n e = cc

pub end_not_edge : (p : Problem) (f : Edge) → codes "end" ≡ edge_line p f → ⊥
end_not_edge p f e = cc

pub node_not_edge : (p : Problem) (n : Node) (f : Edge) → node_line p n ≡ edge_line p f → ⊥
node_not_edge p n f e = let heads : ◌≡◌ {A = ℕ} 110 101 = ap (λ l. get_or l 0 0) e in absurd (omega (arith, heads))

pub NoBreak-end : NoBreak (codes "end")
NoBreak-end = All-from_recursion (λ b. b ≢ 10) (codes "end") (search rules)

pub NoBreak-head : NoBreak (codes "graph 1")
NoBreak-head = All-from_recursion (λ b. b ≢ 10) (codes "graph 1") (search rules)

NoBreak-node_word : NoBreak (codes "node ")
NoBreak-node_word = All-from_recursion (λ b. b ≢ 10) (codes "node ") (search rules)

NoBreak-edge_word : NoBreak (codes "edge ")
NoBreak-edge_word = All-from_recursion (λ b. b ≢ 10) (codes "edge ") (search rules)

NoBreak-space : NoBreak (codes " ")
NoBreak-space = All-from_recursion (λ b. b ≢ 10) (codes " ") (search rules)

-- the line of a node or of an edge is one line
pub NoBreak-node : (p : Problem) (n : Node) → FitsNode p n → NoBreak (node_line p n)
NoBreak-node p n fits =
    let P : ℕ → Type 0 = λ b. b ≢ 10 in
    All-append P (codes "node ") _ NoBreak-node_word
    (All-append P (class_name p n.class) _ (NoBreak-class p n.class fits.class) (All-append P (codes " ") _ NoBreak-space (NoBreak-object p n.origin fits.origin)))

pub NoBreak-edge : (p : Problem) (nodes : ℕ) (e : Edge) → FitsEdge p nodes e → NoBreak (edge_line p e)
NoBreak-edge p nodes e fits =
    let P : ℕ → Type 0 = λ b. b ≢ 10 in
    All-append P (codes "edge ") _ NoBreak-edge_word
    (All-append P (reference_name p e.reference) _ (NoBreak-reference p e.reference fits.reference)
    (All-append P (codes " ") _ NoBreak-space (All-append P (decimal e.from) _ (NoBreak-decimal e.from) (All-append P (codes " ") _ NoBreak-space (NoBreak-decimal e.to)))))

-- a fact that holds anyhow holds of a None
pub IfNone-from : {X : Type 0} (P : Type 0) (r : Option X) → P → IfNone r P
IfNone-from P None h = h
IfNone-from P (Some x) h = tt

-- a line with too few words is none of an edge
pub no_words : (p : Problem) (line tail : List ℕ) → line ≡ codes "edge " ++ tail → NoSpace tail → (e : Edge) → line ≡ edge_line p e → ⊥
no_words p line tail begun whole e spelled =
    let words = after_edge tail ((reference_name p e.reference ++ 32 ∷ decimal e.from) ++ 32 ∷ decimal e.to) (sym begun ∙ spelled ∙ edge_line-words p e) in
    NoSpace-space (reference_name p e.reference ++ 32 ∷ decimal e.from) (decimal e.to) (subst NoSpace words whole)

pub one_word :
    (p : Problem) (line tail prefix to_word : List ℕ) → line ≡ codes "edge " ++ tail → IsLastWord tail prefix to_word → NoSpace prefix →
    (e : Edge) → line ≡ edge_line p e → ⊥
one_word p line tail prefix to_word begun last whole e spelled =
    let words = after_edge tail ((reference_name p e.reference ++ 32 ∷ decimal e.from) ++ 32 ∷ decimal e.to) (sym begun ∙ spelled ∙ edge_line-words p e) in
    let outer = one_last prefix (reference_name p e.reference ++ 32 ∷ decimal e.from) to_word (decimal e.to) last.whole (NoSpace-decimal e.to) (sym last.joined ∙ words) in
    NoSpace-space (reference_name p e.reference) (decimal e.from) (subst NoSpace outer.0 whole)

-- bytes that begin with the line of a node or an edge have it as their first line
pub no_first_node :
    (p : Problem) (bytes : List ℕ) → NoBreak bytes → (n : Node) (after : List ℕ) → FitsNode p n → bytes ≡ node_line p n ++ 10 ∷ after → ⊥
no_first_node p bytes whole n after fits e = NoBreak-break (node_line p n) after (subst NoBreak e whole)

pub no_first_edge :
    (p : Problem) (nodes : ℕ) (bytes : List ℕ) → NoBreak bytes → (f : Edge) (after : List ℕ) → FitsEdge p nodes f → bytes ≡ edge_line p f ++ 10 ∷ after → ⊥
no_first_edge p nodes bytes whole f after fits e = NoBreak-break (edge_line p f) after (subst NoBreak e whole)

pub other_than_node :
    (p : Problem) (bytes line rest : List ℕ) → IsLine bytes line rest → ((n : Node) → FitsNode p n → line ≡ node_line p n → ⊥) →
    (n : Node) (after : List ℕ) → FitsNode p n → bytes ≡ node_line p n ++ 10 ∷ after → ⊥
other_than_node p bytes line rest is none n after fits e =
    none n fits (line_of bytes line rest (node_line p n) after is (NoBreak-node p n fits) e).0

pub other_than_edge :
    (p : Problem) (nodes : ℕ) (bytes line rest : List ℕ) → IsLine bytes line rest → ((f : Edge) → FitsEdge p nodes f → line ≡ edge_line p f → ⊥) →
    (f : Edge) (after : List ℕ) → FitsEdge p nodes f → bytes ≡ edge_line p f ++ 10 ∷ after → ⊥
other_than_edge p nodes bytes line rest is none f after fits e =
    none f fits (line_of bytes line rest (edge_line p f) after is (NoBreak-edge p nodes f fits) e).0

-- bytes that begin with the line of one edge among them begin with that of no other
pub one_first_edge :
    (p : Problem) (nodes : ℕ) (edges : List Edge) (e f : Edge) (bytes s t : List ℕ) → nodes < 2 ^ 64 → FitsEdge p nodes e → FitsEdge p nodes f →
    bytes ≡ edge_line p e ++ 10 ∷ s → bytes ≡ edge_line p f ++ 10 ∷ t → Contains edges e → (Contains edges f → ⊥) → ⊥
one_first_edge p nodes edges e f bytes s t few fe ff be bf among absent =
    let lines = one_line (edge_line p e) (edge_line p f) s t (NoBreak-edge p nodes e fe) (NoBreak-edge p nodes f ff) (sym be ∙ bf) in
    absent (subst (λ g. Contains edges g) (one_edge p nodes e f few fe ff lines.0) among)
