-- The references of classes that are joined, and of one class more in a loop.
use Rattle.std.proofs.Common.{◌≡◌, ◌<◌, ℕ, suc, ◌+◌, take, get_or, List, [], ◌∷◌, ◌++◌, length, map, append_assoc, arith, sym, ap, ◌∙◌}
use Rattle.std.proofs.lemmas.List.{append-nil, length-take, take_more}
use Rattle.rf_names.specs.Declarations.{ClassDecl, references_of}

pub references_append : (n : ℕ) (cs ds : List ClassDecl) → references_of n (cs ++ ds) ≡ references_of n cs ++ references_of (n + length cs) ds
references_append n [] ds = let e : n ≡ n + 0 = omega arith in ap (λ k. references_of k ds) e
references_append n (c ∷ cs) ds =
    let e : suc n + length cs ≡ n + suc (length cs) = omega arith in
    ap (λ rs. map (λ f. record { source = n; feature = f }) c.features ++ rs) (references_append (suc n) cs ds ∙ ap (λ k. references_of (suc n) cs ++ references_of k ds) e)
    ∙ sym (append_assoc (map (λ f. record { source = n; feature = f }) c.features) (references_of (suc n) cs) (references_of (n + suc (length cs)) ds))

pub references_snoc : (n k : ℕ) (cs : List ClassDecl) (c : ClassDecl) → n + length cs ≡ k → references_of n (cs ++ c ∷ []) ≡ references_of n cs ++ map (λ f. record { source = k; feature = f }) c.features
references_snoc n k cs c e =
    references_append n cs (c ∷ [])
    ∙ ap (λ rs. references_of n cs ++ rs) (append-nil (map (λ f. record { source = n + length cs; feature = f }) c.features) ∙ ap (λ j. map (λ f. record { source = j; feature = f }) c.features) e)

pub references_more : (cs : List ClassDecl) (i : ℕ) (c : ClassDecl) → i < length cs → c ≡ get_or cs i c → references_of 0 (take (i + 1) cs) ≡ references_of 0 (take i cs) ++ map (λ f. record { source = i; feature = f }) c.features
references_more cs i c below is =
    let e : 0 + length (take i cs) ≡ i = simp length-take (omega arith) in
    ap (references_of 0) (take_more cs i c below)
    ∙ references_snoc 0 i (take i cs) (get_or cs i c) e
    ∙ ap (λ (d : ClassDecl). references_of 0 (take i cs) ++ map (λ f. record { source = i; feature = f }) d.features) (sym is)
