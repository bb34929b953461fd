-- At most one command fits words, and which words are none.
use Rattle.std.proofs.Common.{Bool, subst, ◌≡◌, ◌<◌, ◌≤◌, ◌^◌, ◌-◌, ℕ, false, List, [], ◌∷◌, Some, Result, Ok, Err, IfOk, IfErr, MatchResult, codes, refl, sym, ◌∙◌, ap, arith, decimal, slice_index, length, unwrap_or}
use Rattle.std.proofs.lemmas.Fmt.{decimal_injective}
use Rattle.rf_words.specs.Arguments.{Arguments, Text, said, values_of}
use Rattle.rf_words.specs.Meaning.{HasNumber, IsCommand, SaysPlain, generate_options, name_of}
use Rattle.rf_words.specs.declared.error.WordsError.{WordsError}
use Rattle.rf_words.specs.declared.error.WordsError.TheVariants.{Usage, Memory}
use Rattle.rf_words.specs.declared.request.Command.{Command}
use Rattle.rf_words.specs.declared.request.Command.TheVariants.{Generate, Check, Verify, Evaluate, Session, Grow}

pub no_generate : (words : List Text) → ((file : Text) (values : List (Text × Text)) (seed budget : ℕ) → said generate_options words ≡ Some (record { plain = file ∷ []; values = values })
    → HasNumber (values_of (codes "seed") values) 0 (2 ^ 64 - 1) 0 seed → HasNumber (values_of (codes "budget") values) 1 1000000 10000 budget → ⊥) → (c : Command) → IsCommand (codes "generate" ∷ words) c → ⊥
no_generate words unsaid (Generate file seed budget json) is = unsaid file is.1.0 seed budget is.1.1 is.1.2.0 is.1.2.1
no_generate words unsaid c is =
    let first : slice_index (codes "generate") 0 ≡ slice_index (name_of c) 0 = ap (λ t. slice_index t 0) is.0 in
    let long : length (codes "generate") ≡ length (name_of c) = ap length is.0 in
    absurd (omega arith)

pub no_check : (words : List Text) → ((a b : Text) → SaysPlain words (a ∷ b ∷ []) → ⊥) → (c : Command) → IsCommand (codes "check" ∷ words) c → ⊥
no_check words unsaid (Check file graph) is = unsaid file graph (is.1.0, is.1.1)
no_check words unsaid c is =
    let first : slice_index (codes "check") 0 ≡ slice_index (name_of c) 0 = ap (λ t. slice_index t 0) is.0 in
    let long : length (codes "check") ≡ length (name_of c) = ap length is.0 in
    absurd (omega arith)

pub no_verify : (words : List Text) → ((a b : Text) → SaysPlain words (a ∷ b ∷ []) → ⊥) → (c : Command) → IsCommand (codes "verify" ∷ words) c → ⊥
no_verify words unsaid (Verify file tree) is = unsaid file tree (is.1.0, is.1.1)
no_verify words unsaid c is =
    let first : slice_index (codes "verify") 0 ≡ slice_index (name_of c) 0 = ap (λ t. slice_index t 0) is.0 in
    let long : length (codes "verify") ≡ length (name_of c) = ap length is.0 in
    absurd (omega arith)

pub no_evaluate : (words : List Text) → ((a : Text) → SaysPlain words (a ∷ []) → ⊥) → (c : Command) → IsCommand (codes "evaluate" ∷ words) c → ⊥
no_evaluate words unsaid (Evaluate file) is = unsaid file (is.1.0, is.1.1)
no_evaluate words unsaid c is =
    let first : slice_index (codes "evaluate") 0 ≡ slice_index (name_of c) 0 = ap (λ t. slice_index t 0) is.0 in
    let long : length (codes "evaluate") ≡ length (name_of c) = ap length is.0 in
    absurd (omega arith)

pub no_session : (words : List Text) → ((a b : Text) → SaysPlain words (a ∷ b ∷ []) → ⊥) → (c : Command) → IsCommand (codes "session" ∷ words) c → ⊥
no_session words unsaid (Session file script) is = unsaid file script (is.1.0, is.1.1)
no_session words unsaid c is =
    let first : slice_index (codes "session") 0 ≡ slice_index (name_of c) 0 = ap (λ t. slice_index t 0) is.0 in
    let long : length (codes "session") ≡ length (name_of c) = ap length is.0 in
    absurd (omega arith)

pub no_grow : (words : List Text) → ((a : ℕ) → SaysPlain words (decimal a ∷ []) → 1 ≤ a → a ≤ 200 → ⊥) → (c : Command) → IsCommand (codes "grow" ∷ words) c → ⊥
no_grow words unsaid (Grow n) is = unsaid n (is.1.0, is.1.1) is.1.2.0 is.1.2.1
no_grow words unsaid c is =
    let first : slice_index (codes "grow") 0 ≡ slice_index (name_of c) 0 = ap (λ t. slice_index t 0) is.0 in
    let long : length (codes "grow") ≡ length (name_of c) = ap length is.0 in
    absurd (omega arith)

abbrev given : List Text → List (Text × Text) → Arguments
given plain values = record { plain = plain; values = values }

plains_of : (p q : List Text) (v w : List (Text × Text)) → Some (given p v) ≡ Some (given q w) → p ≡ q
plains_of p q v w same = ap (λ (a : Arguments). a.plain) (ap (λ o. unwrap_or o (given [] [])) same)

one_number : (values : List Text) (least most default a b : ℕ) → most < 2 ^ 64 → HasNumber values least most default a → HasNumber values least most default b → a ≡ b
one_number [] least most default a b small x y = x ∙ sym y
one_number (v ∷ []) least most default a b small x y = decimal_injective a b (omega arith) (omega arith) (sym x.0 ∙ y.0)
one_number (v ∷ w ∷ rest) least most default a b small x y = absurd x

same_generate :
    (file file' : Text) (seed seed' budget budget' : ℕ) (json json' : Bool) (values values' : List (Text × Text)) →
    Some (given (file ∷ []) values) ≡ Some (given (file' ∷ []) values') →
    HasNumber (values_of (codes "seed") values) 0 (2 ^ 64 - 1) 0 seed → HasNumber (values_of (codes "seed") values') 0 (2 ^ 64 - 1) 0 seed' →
    HasNumber (values_of (codes "budget") values) 1 1000000 10000 budget → HasNumber (values_of (codes "budget") values') 1 1000000 10000 budget' →
    json ≡ false → json' ≡ false → Generate file seed budget json ≡ Generate file' seed' budget' json'
same_generate file file' seed seed' budget budget' json json' values values' parts s s' b b' j j' =
    let same : given (file ∷ []) values ≡ given (file' ∷ []) values' = ap (λ o. unwrap_or o (given [] [])) parts in
    let plains : file ∷ [] ≡ file' ∷ [] = ap (λ (a : Arguments). a.plain) same in
    let files : file ≡ file' = cc in
    let lists : values' ≡ values = sym (ap (λ (a : Arguments). a.values) same) in
    let seeds = one_number (values_of (codes "seed") values) 0 (2 ^ 64 - 1) 0 seed seed' (omega arith) s
    (subst (λ vs. HasNumber (values_of (codes "seed") vs) 0 (2 ^ 64 - 1) 0 seed') lists s') in
    let budgets = one_number (values_of (codes "budget") values) 1 1000000 10000 budget budget' (omega arith) b
    (subst (λ vs. HasNumber (values_of (codes "budget") vs) 1 1000000 10000 budget') lists b') in
    cc

-- at most one command fits
pub one_command : (words : List Text) (a b : Command) → IsCommand words a → IsCommand words b → a ≡ b
one_command [] a b x y = absurd x
one_command (name ∷ rest) (Generate file seed budget json) (Generate file' seed' budget' json') x y =
    let parts : Some (given (file ∷ []) x.1.0) ≡ Some (given (file' ∷ []) y.1.0) = sym x.1.1 ∙ y.1.1 in
    same_generate file file' seed seed' budget budget' json json' x.1.0 y.1.0 parts x.1.2.0 y.1.2.0 x.1.2.1 y.1.2.1 x.1.2.2 y.1.2.2
one_command (name ∷ rest) (Check file graph) (Check file' graph') x y =
    let plains : file ∷ graph ∷ [] ≡ file' ∷ graph' ∷ [] = plains_of (file ∷ graph ∷ []) (file' ∷ graph' ∷ []) x.1.0 y.1.0 (sym x.1.1 ∙ y.1.1) in
    cc
one_command (name ∷ rest) (Verify file tree) (Verify file' tree') x y =
    let plains : file ∷ tree ∷ [] ≡ file' ∷ tree' ∷ [] = plains_of (file ∷ tree ∷ []) (file' ∷ tree' ∷ []) x.1.0 y.1.0 (sym x.1.1 ∙ y.1.1) in
    cc
one_command (name ∷ rest) (Evaluate file) (Evaluate file') x y =
    let plains : file ∷ [] ≡ file' ∷ [] = plains_of (file ∷ []) (file' ∷ []) x.1.0 y.1.0 (sym x.1.1 ∙ y.1.1) in
    cc
one_command (name ∷ rest) (Session file script) (Session file' script') x y =
    let plains : file ∷ script ∷ [] ≡ file' ∷ script' ∷ [] = plains_of (file ∷ script ∷ []) (file' ∷ script' ∷ []) x.1.0 y.1.0 (sym x.1.1 ∙ y.1.1) in
    cc
one_command (name ∷ rest) (Grow n) (Grow n') x y =
    let plains : decimal n ∷ [] ≡ decimal n' ∷ [] = plains_of (decimal n ∷ []) (decimal n' ∷ []) x.1.0 y.1.0 (sym x.1.1 ∙ y.1.1) in
    let same : decimal n ≡ decimal n' = cc in
    let low = x.1.2.1 in
    let high = y.1.2.1 in
    ap Grow (decimal_injective n n' (omega arith) (omega arith) same)
one_command (name ∷ rest) a b x y =
    let first : slice_index (name_of a) 0 ≡ slice_index (name_of b) 0 = ap (λ t. slice_index t 0) (sym x.0 ∙ y.0) in
    let long : length (name_of a) ≡ length (name_of b) = ap length (sym x.0 ∙ y.0) in
    absurd (omega arith)

pub found_if :
    (words : List Text) (r : Result Command WordsError) → IfOk r (λ c. IsCommand words c) →
    IfErr r (λ e. e ≡ Usage → (c : Command) → IsCommand words c → ⊥) → (c : Command) → IsCommand words c → MatchResult r (λ x. x ≡ c) (λ e. e ≡ Memory)
found_if words (Ok x) ok usage c is = one_command words x c ok is
found_if words (Err Usage) ok usage c is = absurd (usage refl c is)
found_if words (Err Memory) ok usage c is = refl
