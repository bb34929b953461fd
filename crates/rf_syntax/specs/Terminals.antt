-- The terminals of the grammar: the words and marks of which statements are made, each as a kind of
-- token.
use Rattle.std.specs.Prelude.{ℕ}
use Rattle.rf_lexer.specs.declared.keyword.Keyword.TheVariants.{Abstract, Atom, Class, Container, Contains, Declare, Default, Enum, Error, Extends, False, Multi, Opposite, Pred, Refers, Scope, True, Unknown}
use Rattle.rf_lexer.specs.declared.mark.Mark.TheVariants.{Dot, DotDot, Comma, Semicolon, Colon, ColonColon, LeftParen, RightParen, LeftBracket, RightBracket, LeftBrace, RightBrace, Bang, Question, Star, Plus, Equal, PlusEqual, EqualEqual, BangEqual, Iff}
use Rattle.rf_lexer.specs.declared.token.Kind.{Kind}
use Rattle.rf_lexer.specs.declared.token.Kind.TheVariants.{Word, Number, Mark}

-- a number
abbrev pub number : ℕ → Kind
number n = Number n

abbrev pub abstract_word : Kind
abstract_word = Word Abstract

abbrev pub atom_word : Kind
atom_word = Word Atom

abbrev pub class_word : Kind
class_word = Word Class

abbrev pub container_word : Kind
container_word = Word Container

abbrev pub contains_word : Kind
contains_word = Word Contains

abbrev pub declare_word : Kind
declare_word = Word Declare

abbrev pub default_word : Kind
default_word = Word Default

abbrev pub enum_word : Kind
enum_word = Word Enum

abbrev pub error_word : Kind
error_word = Word Error

abbrev pub extends_word : Kind
extends_word = Word Extends

abbrev pub false_word : Kind
false_word = Word False

abbrev pub multi_word : Kind
multi_word = Word Multi

abbrev pub opposite_word : Kind
opposite_word = Word Opposite

abbrev pub pred_word : Kind
pred_word = Word Pred

abbrev pub refers_word : Kind
refers_word = Word Refers

abbrev pub scope_word : Kind
scope_word = Word Scope

abbrev pub true_word : Kind
true_word = Word True

abbrev pub unknown_word : Kind
unknown_word = Word Unknown

-- .
abbrev pub dot : Kind
dot = Mark Dot

-- ..
abbrev pub dot_dot : Kind
dot_dot = Mark DotDot

-- ,
abbrev pub comma : Kind
comma = Mark Comma

-- ;
abbrev pub semicolon : Kind
semicolon = Mark Semicolon

-- :
abbrev pub colon : Kind
colon = Mark Colon

-- ::
abbrev pub colon_colon : Kind
colon_colon = Mark ColonColon

-- (
abbrev pub left_paren : Kind
left_paren = Mark LeftParen

-- )
abbrev pub right_paren : Kind
right_paren = Mark RightParen

-- [
abbrev pub left_bracket : Kind
left_bracket = Mark LeftBracket

-- ]
abbrev pub right_bracket : Kind
right_bracket = Mark RightBracket

-- {
abbrev pub left_brace : Kind
left_brace = Mark LeftBrace

-- }
abbrev pub right_brace : Kind
right_brace = Mark RightBrace

-- !
abbrev pub bang : Kind
bang = Mark Bang

-- ?
abbrev pub question : Kind
question = Mark Question

-- *
abbrev pub star : Kind
star = Mark Star

-- +
abbrev pub plus : Kind
plus = Mark Plus

-- =
abbrev pub equal : Kind
equal = Mark Equal

-- +=
abbrev pub plus_equal : Kind
plus_equal = Mark PlusEqual

-- ==
abbrev pub equal_equal : Kind
equal_equal = Mark EqualEqual

-- !=
abbrev pub bang_equal : Kind
bang_equal = Mark BangEqual

-- <->
abbrev pub iff : Kind
iff = Mark Iff
