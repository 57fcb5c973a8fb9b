-- The words of a call that names a network, and the texts for words of the network at its end.
use Rattle.std.specs.Prelude.{ℕ, zero, suc, List, [], length, take, drop, Option, Some, None, Bool, ◌==◌, ◌&&◌, nat_lt, not, is_some, if◌then◌else◌, take_while, get_or, option_map}
use Rattle.std.specs.List.{prefix_len}
use Rattle.flow_parse.specs.Names.{is_name}
use Rattle.flow_words.specs.Words.{Asked, Run, Check, Judge, Replay, Make, Page, command_of}
use Rattle.flow_fill.specs.declared.word.Given.{Given}

-- The byte isn't =.
abbrev pub is_before_text : ℕ → Bool
is_before_text b = not (b == 61)

-- The name in a word NAME=TEXT: what stands before the first =.
abbrev pub name_in : List ℕ → List ℕ
name_in word = take_while is_before_text word

-- The text in it: what stands behind the first =.
abbrev pub text_in : List ℕ → List ℕ
text_in word = drop 1 (drop (prefix_len is_before_text word) word)

-- The word is one of the form NAME=TEXT.
abbrev pub is_given_word : List ℕ → Bool
is_given_word word = nat_lt (prefix_len is_before_text word) (length word) && is_name (name_in word)

-- What a word NAME=TEXT gives.
abbrev pub given_by : List ℕ → Given
given_by word = record { word = name_in word; text = text_in word }

-- The network file that is asked about.
abbrev pub net_in : Asked → Option (List ℕ)
net_in (Run net journal tapes workers report) = Some net
net_in (Check net) = Some net
net_in (Judge net) = Some net
net_in (Replay net journal tapes) = Some net
net_in (Make number workers) = None
net_in (Page page) = None

-- Words that ask for something ask about a network file, or not.
abbrev pub asks_network : List (List ℕ) → Option Bool
asks_network words = option_map (λ asked. is_some (net_in asked)) (command_of words)

-- So many words are a call where they ask about a network file. Where they ask for nothing, and the last of them gives a text, there may be a call in fewer.
abbrev pub ends_at : Option Bool → ℕ → Bool → Option ℕ → Option ℕ
ends_at (Some asks) n gives fewer = if asks then Some n else None
ends_at None n gives fewer = if gives then fewer else None

-- How many of the first n words are a call about a network file, where those behind them, to the n-th, give texts: as many as can be.
abbrev pub call_within : List (List ℕ) → ℕ → Option ℕ
call_within words zero = None
call_within words (suc n) = ends_at (asks_network (take (suc n) words)) (suc n) (is_given_word (get_or words n [])) (call_within words n)
