-- The bytes of a graph's document have one reading, line by line.
use Rattle.std.proofs.Common.{◌≡◌, ◌≢◌, ◌∙◌, ℕ, suc, ◌+◌, ◌<◌, ◌≤◌, ◌^◌, List, [], ◌∷◌, ◌++◌, length, map, take, get_or, refl, sym, ap, subst, arith, append_assoc, codes, All, ◌⊎◌, inl, inr, length-append}
use Rattle.std.specs.Prelude.{AllPairs, Contains}
use Rattle.std.proofs.Math.ListN.{get_or-append}
use Rattle.std.proofs.Math.Seq.{get_or-append_seam}
use Rattle.std.proofs.lemmas.List.{append-nil, length-map, take_all, take_more}
use Rattle.std.proofs.lemmas.List.Elements.{All-nil, All-cons, All-head, All-tail, All-append, All-map, All-weaker, All-same}
use Rattle.rf_text.specs.Line.{NoBreak, joined_lines}
use Rattle.rf_text.proofs.LineLemmas.{one_line, joined_lines-append}
use Rattle.rf_problem.specs.declared.problem.Problem.{Problem}
use Rattle.rf_graph.specs.declared.graph.Edge.{Edge}
use Rattle.rf_graph.specs.declared.graph.Graph.{Graph}
use Rattle.rf_graph.specs.declared.graph.Node.{Node}
use Rattle.rf_graph.specs.BadLine.{Begins, IsBadLine}
use Rattle.rf_graph.specs.Document.{IsDocument, document, edge_line, graph_lines, node_line}
use Rattle.rf_graph.specs.Graph.{Fits, FitsEdge, FitsNode}
use Rattle.rf_graph.proofs.Grown.{lines-push}
use Rattle.rf_graph.proofs.Lines.{NoBreak-edge, NoBreak-end, NoBreak-head, NoBreak-node, end_not_edge, end_not_node, node_not_edge, one_edge, one_node}

All-prefix : {X : Type 0} (P : X → Type 0) → (xs ys : List X) → All P (xs ++ ys) → All P xs
All-prefix P [] ys all = All-nil P
All-prefix P (x ∷ xs) ys all = All-cons P x xs (All-head P x (xs ++ ys) all) (All-prefix P xs ys (All-tail P x (xs ++ ys) all))

All-back : {X : Type 0} (P : X → Type 0) → (xs ys : List X) → All P (xs ++ ys) → All P ys
All-back P [] ys all = all
All-back P (x ∷ xs) ys all = All-back P xs ys (All-tail P x (xs ++ ys) all)

empty_from_length : {X : Type 0} → (xs : List X) → length xs ≡ 0 → xs ≡ []
empty_from_length [] e = refl
empty_from_length (x ∷ xs) e = absurd (omega arith)

-- bytes that begin with some lines and are those of more lines go on with the others
pub split_lines :
    (xs ys : List (List ℕ)) (r s : List ℕ) (j : ℕ) → All NoBreak xs → All NoBreak ys → length ys ≡ length xs + j →
    joined_lines xs ++ r ≡ joined_lines ys ++ s →
    (more : List (List ℕ)) × (ys ≡ xs ++ more) × (length more ≡ j) × (r ≡ joined_lines more ++ s)
split_lines [] ys r s j nx ny many e = (ys, refl, omega arith, e)
split_lines (x ∷ xs) [] r s j nx ny many e = absurd (omega arith)
split_lines (x ∷ xs) (y ∷ ys) r s j nx ny many e =
    let lines = sym (append_assoc x (10 ∷ joined_lines xs) r) ∙ e ∙ append_assoc y (10 ∷ joined_lines ys) s in
    let parts = one_line x y (joined_lines xs ++ r) (joined_lines ys ++ s) (All-head NoBreak x xs nx) (All-head NoBreak y ys ny) lines in
    let first : x ≡ y = parts.0 in
    let ih = split_lines xs ys r s j (All-tail NoBreak x xs nx) (All-tail NoBreak y ys ny) (omega arith) parts.1 in
    let others : ys ≡ xs ++ ih.0 = ih.1 in
    (ih.0, cc, ih.2, ih.3)

-- the same where nothing stands after those lines
pub split_all :
    (xs ys : List (List ℕ)) (r : List ℕ) → All NoBreak xs → All NoBreak ys → joined_lines xs ++ r ≡ joined_lines ys →
    (more : List (List ℕ)) × (ys ≡ xs ++ more) × (r ≡ joined_lines more)
split_all [] ys r nx ny e = (ys, refl, e)
split_all (x ∷ xs) [] r nx ny e =
    absurd (omega (arith, ap length e, length-append (x ++ 10 ∷ joined_lines xs) r, length-append x (10 ∷ joined_lines xs)))
split_all (x ∷ xs) (y ∷ ys) r nx ny e =
    let lines = sym (append_assoc x (10 ∷ joined_lines xs) r) ∙ e in
    let parts = one_line x y (joined_lines xs ++ r) (joined_lines ys) (All-head NoBreak x xs nx) (All-head NoBreak y ys ny) lines in
    let first : x ≡ y = parts.0 in
    let ih = split_all xs ys r (All-tail NoBreak x xs nx) (All-tail NoBreak y ys ny) parts.1 in
    let others : ys ≡ xs ++ ih.0 = ih.1 in
    (ih.0, cc, ih.2)

-- the lines of a document as far as these nodes and edges
abbrev pub prefix_lines : Problem → List Node → List Edge → List (List ℕ)
prefix_lines p nodes edges = codes "graph 1" ∷ (map (node_line p) nodes ++ map (edge_line p) edges)

NoBreak-nodes : (p : Problem) (nodes : List Node) → All (FitsNode p) nodes → All NoBreak (map (node_line p) nodes)
NoBreak-nodes p nodes fits =
    All-map NoBreak (node_line p) nodes (All-weaker (FitsNode p) (λ n. NoBreak (node_line p n)) (NoBreak-node p) nodes fits)

NoBreak-edges : (p : Problem) (many : ℕ) (edges : List Edge) → All (FitsEdge p many) edges → All NoBreak (map (edge_line p) edges)
NoBreak-edges p many edges fits =
    All-map NoBreak (edge_line p) edges (All-weaker (FitsEdge p many) (λ e. NoBreak (edge_line p e)) (NoBreak-edge p many) edges fits)

NoBreak-prefix : (p : Problem) (many : ℕ) (nodes : List Node) (edges : List Edge) → All (FitsNode p) nodes → All (FitsEdge p many) edges → All NoBreak (prefix_lines p nodes edges)
NoBreak-prefix p many nodes edges fn fe =
    All-cons NoBreak (codes "graph 1") (map (node_line p) nodes ++ map (edge_line p) edges) NoBreak-head
    (All-append NoBreak (map (node_line p) nodes) (map (edge_line p) edges) (NoBreak-nodes p nodes fn) (NoBreak-edges p many edges fe))

NoBreak-graph : (p : Problem) (g : Graph) → Fits p g → All NoBreak (graph_lines p g)
NoBreak-graph p g fits =
    let last = All-append NoBreak (map (edge_line p) g.edges) (codes "end" ∷ []) (NoBreak-edges p (length g.nodes) g.edges fits.edges) (All-cons NoBreak (codes "end") [] NoBreak-end (All-nil NoBreak)) in
    All-cons NoBreak (codes "graph 1") (map (node_line p) g.nodes ++ (map (edge_line p) g.edges ++ codes "end" ∷ [])) NoBreak-head
    (All-append NoBreak (map (node_line p) g.nodes) (map (edge_line p) g.edges ++ codes "end" ∷ []) (NoBreak-nodes p g.nodes fits.nodes) last)

-- lines of elements, after which no further one stands, begin with those of others only where these are their first
module _ {X : Type 0} (line_of : X → List ℕ) (P : X → Type 0) (one : (x y : X) → P x → P y → line_of x ≡ line_of y → x ≡ y) where
  pub same_prefix :
      (gs xs : List X) (t u : List (List ℕ)) → All P gs → All P xs → ((x : X) (ls : List (List ℕ)) → t ≡ line_of x ∷ ls → ⊥) →
      map line_of gs ++ t ≡ map line_of xs ++ u → (ms : List X) × (gs ≡ xs ++ ms) × (map line_of ms ++ t ≡ u)
  same_prefix gs [] t u fg fx none e = (gs, refl, e)
  same_prefix [] (x ∷ xs) t u fg fx none e = absurd (none x (map line_of xs ++ u) e)
  same_prefix (g ∷ gs) (x ∷ xs) t u fg fx none e =
      let heads : line_of g ≡ line_of x = cc in
      let tails : map line_of gs ++ t ≡ map line_of xs ++ u = cc in
      let ih = same_prefix gs xs t u (All-tail P g gs fg) (All-tail P x xs fx) none tails in
      let first : g ≡ x = one g x (All-head P g gs fg) (All-head P x xs fx) heads in
      let others : gs ≡ xs ++ ih.0 = ih.1 in
      (ih.0, cc (first, others), ih.2)

-- no line of a node stands among those of edges and the end
no_more_nodes : (p : Problem) (edges : List Edge) (n : Node) (ls : List (List ℕ)) → map (edge_line p) edges ++ codes "end" ∷ [] ≡ node_line p n ∷ ls → ⊥
no_more_nodes p [] n ls e = let same : codes "end" ≡ node_line p n = cc in end_not_node p n same
no_more_nodes p (f ∷ edges) n ls e = let same : edge_line p f ≡ node_line p n = cc in node_not_edge p n f (sym same)

no_more_edges : (p : Problem) (f : Edge) (ls : List (List ℕ)) → codes "end" ∷ [] ≡ edge_line p f ∷ ls → ⊥
no_more_edges p f ls e = let same : codes "end" ≡ edge_line p f = cc in end_not_edge p f same

-- of edges that differ each is none of those before it
differs : (edges : List Edge) (f : Edge) (fs : List Edge) → AllPairs (λ x y. x ≢ y) (edges ++ f ∷ fs) → Contains edges f → ⊥
differs edges f fs distinct there =
    let before = there.1 in
    distinct there.0 (length edges) f before (omega (arith, length-append edges (f ∷ fs)))
    (get_or-append edges (f ∷ fs) f there.0 before ∙ there.2 ∙ sym (get_or-append_seam edges f fs f))

-- what may stand after the lines of these nodes and edges: the end, of whose rest this holds, one more node where there is no edge, or
-- one more edge
abbrev pub IsKind : Problem → List Node → List Edge → List ℕ → Type 0 → Type 0
IsKind p nodes edges line Over =
    ((line ≡ codes "end") × Over) ⊎
    (((n : Node) × FitsNode p n × (edges ≡ []) × (line ≡ node_line p n)) ⊎
    ((e : Edge) × FitsEdge p (length nodes) e × (Contains edges e → ⊥) × (line ≡ edge_line p e)))

-- lines begin with such a one
abbrev pub IsTail : Problem → List Node → List Edge → List (List ℕ) → Type 0
IsTail p nodes edges u = (line : List ℕ) × (more : List (List ℕ)) × (u ≡ line ∷ more) × IsKind p nodes edges line (more ≡ [])

after_edges :
    (p : Problem) (nodes : List Node) (edges es : List Edge) (u : List (List ℕ)) → All (FitsEdge p (length nodes)) (edges ++ es) →
    AllPairs (λ x y. x ≢ y) (edges ++ es) → map (edge_line p) es ++ codes "end" ∷ [] ≡ u → IsTail p nodes edges u
after_edges p nodes edges [] u fits distinct e = (codes "end", [], sym e, inl (refl, refl))
after_edges p nodes edges (f ∷ fs) u fits distinct e =
    let own = All-head (FitsEdge p (length nodes)) f fs (All-back (FitsEdge p (length nodes)) edges (f ∷ fs) fits) in
    (edge_line p f, map (edge_line p) fs ++ codes "end" ∷ [], sym e, inr (inr (f, own, differs edges f fs distinct, refl)))

after_nodes :
    (p : Problem) (g : Graph) (nodes ms : List Node) (edges : List Edge) (u : List (List ℕ)) → length nodes < 2 ^ 64 → Fits p g → All (FitsEdge p (length nodes)) edges →
    g.nodes ≡ nodes ++ ms → map (node_line p) ms ++ (map (edge_line p) g.edges ++ codes "end" ∷ []) ≡ map (edge_line p) edges ++ u → IsTail p nodes edges u
after_nodes p g nodes [] edges u few fits fe all e =
    let same : g.nodes ≡ nodes = all ∙ append-nil nodes in
    let own = subst (λ ns. All (FitsEdge p (length ns)) g.edges) same fits.edges in
    let parts = same_prefix (edge_line p) (FitsEdge p (length nodes)) (λ x y fx fy. one_edge p (length nodes) x y few fx fy) g.edges edges (codes "end" ∷ []) u own fe (no_more_edges p) e in
    after_edges p nodes edges parts.0 u (subst (All (FitsEdge p (length nodes))) parts.1 own) (subst (AllPairs (λ x y. x ≢ y)) parts.1 fits.distinct) parts.2
after_nodes p g nodes (m ∷ ms) [] u few fits fe all e =
    let own = All-head (FitsNode p) m ms (All-back (FitsNode p) nodes (m ∷ ms) (subst (All (FitsNode p)) all fits.nodes)) in
    (node_line p m, map (node_line p) ms ++ (map (edge_line p) g.edges ++ codes "end" ∷ []), sym e, inr (inl (m, own, refl, refl)))
after_nodes p g nodes (m ∷ ms) (f ∷ edges) u few fits fe all e =
    let same : node_line p m ≡ edge_line p f = cc in
    absurd (node_not_edge p m f same)

tail_of :
    (p : Problem) (g : Graph) (nodes : List Node) (edges : List Edge) (u : List (List ℕ)) → length nodes < 2 ^ 64 → Fits p g → All (FitsNode p) nodes →
    All (FitsEdge p (length nodes)) edges → graph_lines p g ≡ prefix_lines p nodes edges ++ u → IsTail p nodes edges u
tail_of p g nodes edges u few fits fn fe e =
    let tail : map (node_line p) g.nodes ++ (map (edge_line p) g.edges ++ codes "end" ∷ []) ≡ (map (node_line p) nodes ++ map (edge_line p) edges) ++ u = cc in
    let lines = tail ∙ append_assoc (map (node_line p) nodes) (map (edge_line p) edges) u in
    let parts = same_prefix (node_line p) (FitsNode p) (one_node p) g.nodes nodes (map (edge_line p) g.edges ++ codes "end" ∷ []) (map (edge_line p) edges ++ u) fits.nodes fn
    (no_more_nodes p g.edges) lines in
    after_nodes p g nodes parts.0 edges u few fits fe parts.1 parts.2

-- the rest begins with a line that may stand after these
pub record IsNext (p : Problem) (nodes : List Node) (edges : List Edge) (rest : List ℕ) (Over : List ℕ → Type 0) : Type 0 where
  pub line : List ℕ
  pub after : List ℕ
  pub begun : rest ≡ line ++ 10 ∷ after
  pub kind : IsKind p nodes edges line (Over after)

kind_of :
    (p : Problem) (nodes : List Node) (edges : List Edge) (line : List ℕ) (Over Other : Type 0) → (Over → Other) → IsKind p nodes edges line Over →
    IsKind p nodes edges line Other
kind_of p nodes edges line Over Other turn kind = elim kind [ inl (over, holds) ↦ inl (over, turn holds) | inr other ↦ inr other ]

-- what of a document stands after the lines of these nodes and edges
pub IsNext-document :
    (p : Problem) (bytes rest : List ℕ) (nodes : List Node) (edges : List Edge) (g : Graph) → length nodes < 2 ^ 64 → All (FitsNode p) nodes →
    All (FitsEdge p (length nodes)) edges → bytes ≡ joined_lines (prefix_lines p nodes edges) ++ rest → IsDocument p g bytes →
    IsNext p nodes edges rest (λ after. after ≡ [])
IsNext-document p bytes rest nodes edges g few fn fe so_far doc =
    let parts = split_all (prefix_lines p nodes edges) (graph_lines p g) rest (NoBreak-prefix p (length nodes) nodes edges fn fe) (NoBreak-graph p g doc.fits) (sym so_far ∙ doc.spelled) in
    let tail = tail_of p g nodes edges parts.0 few doc.fits fn fe parts.1 in
    record {
      line = tail.0;
      after = joined_lines tail.1;
      begun = parts.2 ∙ ap joined_lines tail.2;
      kind = kind_of p nodes edges tail.0 (tail.1 ≡ []) (joined_lines tail.1 ≡ []) (ap joined_lines) tail.3;
    }

-- what of a begun document does
next_of :
    (p : Problem) (nodes : List Node) (edges : List Edge) (lines further : List (List ℕ)) (rest r : List ℕ) (j : ℕ) → length lines ≡ suc j →
    rest ≡ joined_lines lines ++ r → IsTail p nodes edges (lines ++ further) → IsNext p nodes edges rest (λ _. j ≡ 0)
next_of p nodes edges [] further rest r j many same tail = absurd (omega arith)
next_of p nodes edges (l ∷ lines) further rest r j many same tail =
    let whole : l ∷ (lines ++ further) ≡ tail.0 ∷ tail.1 = tail.2 in
    let first : l ≡ tail.0 = cc in
    let others : lines ++ further ≡ tail.1 = cc in
    record {
      line = tail.0;
      after = joined_lines lines ++ r;
      begun = same ∙ append_assoc l (10 ∷ joined_lines lines) r ∙ ap (λ k. k ++ 10 ∷ (joined_lines lines ++ r)) first;
      kind = kind_of p nodes edges tail.0 (tail.1 ≡ []) (j ≡ 0) (λ none. omega (arith, ap length (others ∙ none), length-append lines further)) tail.3;
    }

pub IsNext-begun :
    (p : Problem) (bytes rest : List ℕ) (nodes : List Node) (edges : List Edge) (j : ℕ) → length nodes < 2 ^ 64 → All (FitsNode p) nodes →
    All (FitsEdge p (length nodes)) edges → bytes ≡ joined_lines (prefix_lines p nodes edges) ++ rest →
    Begins p bytes (length nodes + length edges + 2 + j) → IsNext p nodes edges rest (λ _. j ≡ 0)
IsNext-begun p bytes rest nodes edges j few fn fe so_far b =
    let whole = All-prefix NoBreak b.prefix b.more (All-same NoBreak (b.prefix ++ b.more) (graph_lines p b.graph) (sym b.continued) (NoBreak-graph p b.graph b.fits)) in
    let many : length b.prefix ≡ length (prefix_lines p nodes edges) + suc j =
    omega (arith, b.many, length-append (map (node_line p) nodes) (map (edge_line p) edges), length-map nodes (node_line p), length-map edges (edge_line p)) in
    let parts = split_lines (prefix_lines p nodes edges) b.prefix rest b.rest (suc j) (NoBreak-prefix p (length nodes) nodes edges fn fe) whole many (sym so_far ∙ b.begun) in
    let lines = b.continued ∙ ap (λ prefix. prefix ++ b.more) parts.1 ∙ append_assoc (prefix_lines p nodes edges) parts.0 b.more in
    next_of p nodes edges parts.0 b.more rest b.rest j parts.2 parts.3 (tail_of p b.graph nodes edges (parts.0 ++ b.more) few b.fits fn fe lines)

-- a rest that begins with none of those is no next
pub stuck :
    (p : Problem) (nodes : List Node) (edges : List Edge) (rest : List ℕ) (Over : List ℕ → Type 0) →
    ((after : List ℕ) → rest ≡ codes "end\n" ++ after → Over after → ⊥) →
    ((n : Node) (after : List ℕ) → FitsNode p n → edges ≡ [] → rest ≡ node_line p n ++ 10 ∷ after → ⊥) →
    ((e : Edge) (after : List ℕ) → FitsEdge p (length nodes) e → (Contains edges e → ⊥) → rest ≡ edge_line p e ++ 10 ∷ after → ⊥) →
    IsNext p nodes edges rest Over → ⊥
stuck p nodes edges rest Over no_end no_node no_edge next = elim next.kind [
  | inl (over, holds) ↦ no_end next.after (next.begun ∙ ap (λ l. l ++ 10 ∷ next.after) over) holds
  | inr other ↦ elim other [
    | inl (n, fits, none, same) ↦ no_node n next.after fits none (next.begun ∙ ap (λ l. l ++ 10 ∷ next.after) same)
    | inr (e, fits, absent, same) ↦ no_edge e next.after fits absent (next.begun ∙ ap (λ l. l ++ 10 ∷ next.after) same)
  ]
]

-- the graph so far
abbrev pub graph_of : List Node → List Edge → Graph
graph_of nodes edges = record { nodes = nodes; edges = edges }

graph_lines-prefix : (p : Problem) (nodes : List Node) (edges : List Edge) → graph_lines p (graph_of nodes edges) ≡ prefix_lines p nodes edges ++ codes "end" ∷ []
graph_lines-prefix p nodes edges =
    ap (λ ls. codes "graph 1" ∷ ls) (sym (append_assoc (map (node_line p) nodes) (map (edge_line p) edges) (codes "end" ∷ [])))

length-prefix : (p : Problem) (nodes : List Node) (edges : List Edge) → length (prefix_lines p nodes edges) ≡ length nodes + length edges + 1
length-prefix p nodes edges =
    omega (arith, length-append (map (node_line p) nodes) (map (edge_line p) edges), length-map nodes (node_line p), length-map edges (edge_line p))

-- the line after those of these is bad where none is next
pub IsBadLine-next :
    (p : Problem) (bytes rest : List ℕ) (nodes : List Node) (edges : List Edge) (line : ℕ) → length nodes < 2 ^ 64 → Fits p (graph_of nodes edges) →
    bytes ≡ joined_lines (prefix_lines p nodes edges) ++ rest → line ≡ length nodes + length edges + 2 →
    (IsNext p nodes edges rest (λ after. after ≡ []) → ⊥) → (IsNext p nodes edges rest (λ _. ◌≡◌ {A = ℕ} 0 0) → ⊥) → IsBadLine p bytes line
IsBadLine-next p bytes rest nodes edges line few fits so_far place no_document no_begun = record {
  none = λ g doc. no_document (IsNext-document p bytes rest nodes edges g few fits.nodes fits.edges so_far doc);
  positive = omega arith;
  before = record {
    prefix = prefix_lines p nodes edges;
    rest = rest;
    graph = graph_of nodes edges;
    more = codes "end" ∷ [];
    fits = fits;
    many = omega (arith, length-prefix p nodes edges);
    begun = so_far;
    continued = graph_lines-prefix p nodes edges;
  };
  here = λ b. no_begun (IsNext-begun p bytes rest nodes edges 0 few fits.nodes fits.edges so_far (subst (Begins p bytes) (omega arith) b));
}

-- the lines so far with the end after them
with_end :
    (p : Problem) (bytes rest after : List ℕ) (nodes : List Node) (edges : List Edge) → bytes ≡ joined_lines (prefix_lines p nodes edges) ++ rest →
    rest ≡ codes "end\n" ++ after → bytes ≡ document p (graph_of nodes edges) ++ after
with_end p bytes rest after nodes edges so_far ended =
    so_far ∙ ap (λ r. joined_lines (prefix_lines p nodes edges) ++ r) ended
    ∙ sym (append_assoc (joined_lines (prefix_lines p nodes edges)) (codes "end\n") after)
    ∙ ap (λ ls. ls ++ after) (sym (joined_lines-append (prefix_lines p nodes edges) (codes "end" ∷ [])) ∙ ap joined_lines (sym (graph_lines-prefix p nodes edges)))

-- after the end nothing is next but an end
not_node : (p : Problem) (n : Node) (after s : List ℕ) → codes "end\n" ++ after ≡ node_line p n ++ 10 ∷ s → ⊥
not_node p n after s e = let heads : ◌≡◌ {A = ℕ} 101 110 = ap (λ l. get_or l 0 0) e in absurd (omega (arith, heads))

not_edge : (p : Problem) (f : Edge) (after s : List ℕ) → codes "end\n" ++ after ≡ edge_line p f ++ 10 ∷ s → ⊥
not_edge p f after s e = let seconds : ◌≡◌ {A = ℕ} 110 100 = ap (λ l. get_or l 1 0) e in absurd (omega (arith, seconds))

after_end : (xs ys : List ℕ) → codes "end\n" ++ xs ≡ codes "end\n" ++ ys → xs ≡ ys
after_end xs ys e = cc

-- so many lines are those of the graph of these, after which something stands
pub IsBadLine-after :
    (p : Problem) (bytes rest after : List ℕ) (nodes : List Node) (edges : List Edge) (line : ℕ) → length nodes < 2 ^ 64 → Fits p (graph_of nodes edges) →
    bytes ≡ joined_lines (prefix_lines p nodes edges) ++ rest → rest ≡ codes "end\n" ++ after → (length after ≡ 0 → ⊥) →
    line ≡ length nodes + length edges + 3 → IsBadLine p bytes line
IsBadLine-after p bytes rest after nodes edges line few fits so_far ended more here = record {
  none = λ g doc. stuck p nodes edges rest (λ after. after ≡ []) (λ s same none. more (ap length (after_end after s (sym ended ∙ same) ∙ none))) no_node no_edge
      (IsNext-document p bytes rest nodes edges g few fits.nodes fits.edges so_far doc);
  positive = omega arith;
  before = record {
    prefix = graph_lines p (graph_of nodes edges);
    rest = after;
    graph = graph_of nodes edges;
    more = [];
    fits = fits;
    many = omega (arith, ap length (graph_lines-prefix p nodes edges), length-append (prefix_lines p nodes edges) (codes "end" ∷ []), length-prefix p nodes edges);
    begun = with_end p bytes rest after nodes edges so_far ended;
    continued = sym (append-nil (graph_lines p (graph_of nodes edges)));
  };
  here = λ b. stuck p nodes edges rest (λ _. ◌≡◌ {A = ℕ} 1 0) (λ s same one. absurd (omega (arith, one))) no_node no_edge
      (IsNext-begun p bytes rest nodes edges 1 few fits.nodes fits.edges so_far (subst (Begins p bytes) (omega arith) b));
}
  where
    no_node : (n : Node) (s : List ℕ) → FitsNode p n → edges ≡ [] → rest ≡ node_line p n ++ 10 ∷ s → ⊥
    no_node n s _ _ same = not_node p n after s (sym ended ∙ same)

    no_edge : (f : Edge) (s : List ℕ) → FitsEdge p (length nodes) f → (Contains edges f → ⊥) → rest ≡ edge_line p f ++ 10 ∷ s → ⊥
    no_edge f s _ _ same = not_edge p f after s (sym ended ∙ same)

-- with nothing after the end it is a document
pub IsDocument-ended :
    (p : Problem) (bytes rest after : List ℕ) (nodes : List Node) (edges : List Edge) → Fits p (graph_of nodes edges) →
    bytes ≡ joined_lines (prefix_lines p nodes edges) ++ rest → rest ≡ codes "end\n" ++ after → length after ≡ 0 →
    IsDocument p (graph_of nodes edges) bytes
IsDocument-ended p bytes rest after nodes edges fits so_far ended over = record {
  fits = fits;
  spelled = with_end p bytes rest after nodes edges so_far ended
      ∙ ap (λ r. document p (graph_of nodes edges) ++ r) (empty_from_length after over) ∙ append-nil (document p (graph_of nodes edges));
}

-- edges that are written in the same way are the same, and so are nodes
no_edges_left : (p : Problem) (es : List Edge) → map (edge_line p) es ++ codes "end" ∷ [] ≡ codes "end" ∷ [] → es ≡ []
no_edges_left p [] e = refl
no_edges_left p (f ∷ es) e = absurd (no_more_edges p f (map (edge_line p) es ++ codes "end" ∷ []) (sym e))

same_edges :
    (p : Problem) (many : ℕ) (es fs : List Edge) → many < 2 ^ 64 → All (FitsEdge p many) es → All (FitsEdge p many) fs →
    map (edge_line p) es ++ codes "end" ∷ [] ≡ map (edge_line p) fs ++ codes "end" ∷ [] → es ≡ fs
same_edges p many es fs few fe ff e =
    let one : (x y : Edge) → FitsEdge p many x → FitsEdge p many y → edge_line p x ≡ edge_line p y → x ≡ y = λ x y fx fy. one_edge p many x y few fx fy in
    let parts = same_prefix (edge_line p) (FitsEdge p many) one es fs (codes "end" ∷ []) (codes "end" ∷ []) fe ff (no_more_edges p) e in
    parts.1 ∙ (ap (λ ms. fs ++ ms) (no_edges_left p parts.0 parts.2) ∙ append-nil fs)

same_graph :
    (p : Problem) (g h : Graph) (ms : List Node) → length g.nodes < 2 ^ 64 → Fits p g → Fits p h → h.nodes ≡ g.nodes ++ ms →
    map (node_line p) ms ++ (map (edge_line p) h.edges ++ codes "end" ∷ []) ≡ map (edge_line p) g.edges ++ codes "end" ∷ [] → h ≡ g
same_graph p g h [] few fg fh all e =
    let nodes : h.nodes ≡ g.nodes = all ∙ append-nil g.nodes in
    let own = subst (λ ns. All (FitsEdge p (length ns)) h.edges) nodes fh.edges in
    let edges : h.edges ≡ g.edges = same_edges p (length g.nodes) h.edges g.edges few own fg.edges e in
    λ i. record { nodes = nodes i; edges = edges i }
same_graph p g h (m ∷ ms) few fg fh all e =
    absurd (no_more_nodes p g.edges m (map (node_line p) ms ++ (map (edge_line p) h.edges ++ codes "end" ∷ [])) (sym e))

no_lines : (more : List (List ℕ)) → [] ≡ joined_lines more → more ≡ []
no_lines [] e = refl
no_lines (l ∷ more) e = absurd (omega (arith, ap length e, length-append l (10 ∷ joined_lines more)))

same_lines : (xs ys : List (List ℕ)) → All NoBreak xs → All NoBreak ys → joined_lines xs ≡ joined_lines ys → ys ≡ xs
same_lines xs ys nx ny e =
    let parts = split_all xs ys [] nx ny (append-nil (joined_lines xs) ∙ e) in
    parts.1 ∙ (ap (λ ls. xs ++ ls) (no_lines parts.0 parts.2) ∙ append-nil xs)

-- bytes are the document of one graph at most
pub one_document : (p : Problem) (bytes : List ℕ) (g h : Graph) → length g.nodes < 2 ^ 64 → IsDocument p g bytes → IsDocument p h bytes → h ≡ g
one_document p bytes g h few dg dh =
    let whole = same_lines (graph_lines p g) (graph_lines p h) (NoBreak-graph p g dg.fits) (NoBreak-graph p h dh.fits) (sym dg.spelled ∙ dh.spelled) in
    let lines : map (node_line p) h.nodes ++ (map (edge_line p) h.edges ++ codes "end" ∷ []) ≡ map (node_line p) g.nodes ++ (map (edge_line p) g.edges ++ codes "end" ∷ []) = cc whole in
    let before = same_prefix (node_line p) (FitsNode p) (one_node p) h.nodes g.nodes (map (edge_line p) h.edges ++ codes "end" ∷ []) (map (edge_line p) g.edges ++ codes "end" ∷ [])
    dh.fits.nodes dg.fits.nodes (no_more_nodes p h.edges) lines in
    same_graph p g h before.0 few dg.fits dh.fits before.1 before.2

first_line_is :
    (p : Problem) (lines : List (List ℕ)) (prefix more : List (List ℕ)) (bytes rest : List ℕ) → ((rest : List ℕ) → bytes ≡ codes "graph 1\n" ++ rest → ⊥) →
    length prefix ≡ 1 → bytes ≡ joined_lines prefix ++ rest → codes "graph 1" ∷ lines ≡ prefix ++ more → ⊥
first_line_is p lines [] more bytes rest no_head many begun continued = absurd (omega arith)
first_line_is p lines (line ∷ prefix) more bytes rest no_head many begun continued =
    let head : line ≡ codes "graph 1" = cc in
    no_head (joined_lines prefix ++ rest) (begun ∙ append_assoc line (10 ∷ joined_lines prefix) rest ∙ ap (λ l. l ++ 10 ∷ (joined_lines prefix ++ rest)) head)

-- bytes that don't begin with the head are bad in the first line
pub IsBadLine-head : (p : Problem) (bytes : List ℕ) → ((rest : List ℕ) → bytes ≡ codes "graph 1\n" ++ rest → ⊥) → IsBadLine p bytes 1
IsBadLine-head p bytes no_head = record {
  none = λ g doc. no_head (joined_lines (map (node_line p) g.nodes ++ (map (edge_line p) g.edges ++ codes "end" ∷ []))) doc.spelled;
  positive = omega arith;
  before = record {
    prefix = [];
    rest = bytes;
    graph = graph_of [] [];
    more = graph_lines p (graph_of [] []);
    fits = record { nodes = All-nil (FitsNode p); edges = All-nil (FitsEdge p 0); distinct = λ i j d before h. absurd (omega (arith, h)) };
    many = refl;
    begun = refl;
    continued = refl;
  };
  here = λ b. first_line_is p (map (node_line p) b.graph.nodes ++ (map (edge_line p) b.graph.edges ++ codes "end" ∷ [])) b.prefix b.more bytes b.rest no_head b.many b.begun b.continued;
}

-- the lines of nodes and of edges that were read one after the other
pub read_so_far :
    (p : Problem) (bytes tail after_nodes rest : List ℕ) (nodes : List Node) (edges : List Edge) → bytes ≡ codes "graph 1\n" ++ tail →
    tail ≡ joined_lines (map (node_line p) nodes) ++ after_nodes → after_nodes ≡ joined_lines (map (edge_line p) edges) ++ rest →
    bytes ≡ joined_lines (prefix_lines p nodes edges) ++ rest
read_so_far p bytes tail after_nodes rest nodes edges head node_part edge_part =
    head ∙ ap (λ r. codes "graph 1\n" ++ r) (node_part ∙ ap (λ r. joined_lines (map (node_line p) nodes) ++ r) edge_part
    ∙ sym (append_assoc (joined_lines (map (node_line p) nodes)) (joined_lines (map (edge_line p) edges)) rest)
    ∙ ap (λ ls. ls ++ rest) (sym (joined_lines-append (map (node_line p) nodes) (map (edge_line p) edges))))

-- what is known where nodes and then edges were read, as many as there are
pub record IsRead (p : Problem) (bytes rest : List ℕ) (nodes : List Node) (edges : List Edge) : Type 0 where
  pub fits : Fits p (graph_of nodes edges)
  pub so_far : bytes ≡ joined_lines (prefix_lines p nodes edges) ++ rest
  pub no_node : (n : Node) (after : List ℕ) → FitsNode p n → edges ≡ [] → rest ≡ node_line p n ++ 10 ∷ after → ⊥
  pub no_edge : (e : Edge) (after : List ℕ) → FitsEdge p (length nodes) e → (Contains edges e → ⊥) → rest ≡ edge_line p e ++ 10 ∷ after → ⊥

pub IsRead-parts :
    (p q : Problem) (bytes tail after_nodes rest : List ℕ) (nodes : List Node) (edges : List Edge) (many : ℕ) → q ≡ p → many ≡ length nodes →
    bytes ≡ codes "graph 1\n" ++ tail → All (FitsNode q) nodes → tail ≡ joined_lines (map (node_line q) nodes) ++ after_nodes →
    ((n : Node) (after : List ℕ) → FitsNode q n → after_nodes ≡ node_line q n ++ 10 ∷ after → ⊥) → All (FitsEdge q many) edges →
    AllPairs (λ x y. x ≢ y) edges → after_nodes ≡ joined_lines (map (edge_line q) edges) ++ rest →
    ((e : Edge) (after : List ℕ) → FitsEdge q many e → (Contains edges e → ⊥) → rest ≡ edge_line q e ++ 10 ∷ after → ⊥) →
    IsRead p bytes rest nodes edges
IsRead-parts p q bytes tail after_nodes rest nodes edges many same count head fn node_part node_over fe distinct edge_part edge_over =
    subst (λ x. IsRead x bytes rest nodes edges) same record {
      fits = record { nodes = fn; edges = subst (λ (k : ℕ). All (FitsEdge q k) edges) count fe; distinct = distinct };
      so_far = read_so_far q bytes tail after_nodes rest nodes edges head node_part edge_part;
      no_node = λ n after fits none begun. node_over n after fits (edge_part ∙ ap (λ es. joined_lines (map (edge_line q) es) ++ rest) none ∙ begun);
      no_edge = λ e after fits. edge_over e after (subst (λ (k : ℕ). FitsEdge q k e) (sym count) fits);
    }

-- the text so far, after one more line of a list
pub printed_more :
    {X : Type 0} (line_of : X → List ℕ) (prefix : List ℕ) (xs : List X) (i : ℕ) (d : X) (text now : List ℕ) → i < length xs →
    text ≡ prefix ++ joined_lines (map line_of (take i xs)) → now ≡ text ++ (line_of (get_or xs i d) ++ 10 ∷ []) →
    now ≡ prefix ++ joined_lines (map line_of (take (i + 1) xs))
printed_more line_of prefix xs i d text now within so_far pushed =
    pushed ∙ ap (λ bytes. bytes ++ (line_of (get_or xs i d) ++ 10 ∷ [])) so_far
    ∙ append_assoc prefix (joined_lines (map line_of (take i xs))) (line_of (get_or xs i d) ++ 10 ∷ [])
    ∙ ap (λ bytes. prefix ++ bytes) (sym (lines-push line_of (take i xs) (take (i + 1) xs) (get_or xs i d) (take_more xs i d within)))

-- the lines of the whole list
pub printed_whole :
    {X : Type 0} (line_of : X → List ℕ) (prefix : List ℕ) (xs ys : List X) (i : ℕ) (text : List ℕ) → xs ≡ ys → length xs ≤ i →
    text ≡ prefix ++ joined_lines (map line_of (take i xs)) → text ≡ prefix ++ joined_lines (map line_of ys)
printed_whole line_of prefix xs ys i text same over so_far = so_far ∙ ap (λ zs. prefix ++ joined_lines (map line_of zs)) (take_all i xs over ∙ same)

-- the whole document, after the end
pub printed_all :
    (p : Problem) (g : Graph) (text now : List ℕ) →
    text ≡ (codes "graph 1\n" ++ joined_lines (map (node_line p) g.nodes)) ++ joined_lines (map (edge_line p) g.edges) → now ≡ text ++ codes "end\n" →
    now ≡ document p g
printed_all p g text now so_far pushed =
    pushed ∙ ap (λ bytes. bytes ++ codes "end\n") so_far
    ∙ append_assoc (codes "graph 1\n" ++ joined_lines (map (node_line p) g.nodes)) (joined_lines (map (edge_line p) g.edges)) (codes "end\n")
    ∙ append_assoc (codes "graph 1\n") (joined_lines (map (node_line p) g.nodes)) (joined_lines (map (edge_line p) g.edges) ++ codes "end\n")
    ∙ ap (λ bytes. codes "graph 1\n" ++ (joined_lines (map (node_line p) g.nodes) ++ bytes)) (sym (joined_lines-append (map (edge_line p) g.edges) (codes "end" ∷ [])))
    ∙ ap (λ bytes. codes "graph 1\n" ++ bytes) (sym (joined_lines-append (map (node_line p) g.nodes) (map (edge_line p) g.edges ++ codes "end" ∷ [])))
