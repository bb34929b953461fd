use Rattle.std.proofs.Common.{is_some, ap, sym, ◌∙◌}
use Rattle.std.specs.Option.{option_and_then}
use Rattle.std.specs.Str.{bytes_eq}
use Rattle.clap.proofs.WalkLemmas.{list_any-map}
use Rattle.rf_words.specs.Arguments.{is_among, option_of}
use Rattle.rf_words.specs.Reader.{texts}
use Rattle.rf_words.proofs.Fronts.{known_option}
use Rattle.rf_words.proofs.options.is_option.Goals as goal

pub returns-in-Some : goal.returns-in-Some
returns-in-Some c =
    let names = texts c.args.names.now in
    c.is_among.ensures ∙ list_any-map (λ n. bytes_eq n c.name_of.result.now) (λ s. s.now) c.args.names.now
    ∙ ap (is_among names) c.name_of.ensures ∙ sym (known_option names c.in-Some.text.now)
    ∙ ap (λ o. is_some (option_and_then (option_of names) o)) c.in-Some.ensures

pub returns-in-None : goal.returns-in-None
returns-in-None c = ap (λ o. is_some (option_and_then (option_of (texts c.args.names.now)) o)) c.in-None.ensures
