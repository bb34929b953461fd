-- The parts of conditions that ask for several things.
use Rattle.std.proofs.Common.{◌≡◌, Bool, true, ◌&&◌}
use Rattle.std.proofs.lemmas.Bool.{and_parts}

pub three_parts : (a b c : Bool) → (a && (b && c)) ≡ true → (a ≡ true) × (b ≡ true) × (c ≡ true)
three_parts a b c h =
    let one = and_parts a (b && c) h in
    let two = and_parts b c one.1 in
    (one.0, two.0, two.1)

pub four_parts : (a b c d : Bool) → (a && (b && (c && d))) ≡ true → (a ≡ true) × (b ≡ true) × (c ≡ true) × (d ≡ true)
four_parts a b c d h =
    let one = and_parts a (b && (c && d)) h in
    let rest = three_parts b c d one.1 in
    (one.0, rest.0, rest.1, rest.2)

pub five_parts : (a b c d e : Bool) → (a && (b && (c && (d && e)))) ≡ true
    → (a ≡ true) × (b ≡ true) × (c ≡ true) × (d ≡ true) × (e ≡ true)
five_parts a b c d e h =
    let one = and_parts a (b && (c && (d && e))) h in
    let rest = four_parts b c d e one.1 in
    (one.0, rest.0, rest.1, rest.2, rest.3)
