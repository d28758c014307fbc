-- The one line that is all there is where the arguments or the input are wrong.
-- Assumes nothing.
use Rattle.std.specs.Prelude.{if◌then◌else◌, Bool, ◌&&◌, List, ◌++◌, map, ℕ, leb}
use Rattle.text.specs.Text.{ascii, decimal}

-- a byte as it is shown: a printable one, or a question mark
abbrev pub shown : ℕ → ℕ
shown x = if leb 32 x && leb x 126 then x else 63

unfoldable pub long_arguments_text : List ℕ
long_arguments_text = ascii "the arguments are too long: more than 4096 bytes\n"

unfoldable pub no_group_text : List ℕ
no_group_text = ascii "no group: name its cores, as in 'verdict 0 2'\n"

-- an argument, or the first bytes of a long one
unfoldable pub no_core_text : List ℕ → Bool → List ℕ
no_core_text s long = ascii "'" ++ map shown s ++ (if long then ascii "..' is no core number: 0 to 3\n" else ascii "' is no core number: 0 to 3\n")

unfoldable pub cut_head_text : ℕ → List ℕ
cut_head_text n = ascii "the input is cut at byte " ++ decimal n ++ ascii ": words 0 and 1 are 8 bytes\n"

unfoldable pub machine_text : ℕ → ℕ → ℕ → List ℕ
machine_text cores pages bytes =
    ascii ": a machine (cores: " ++ decimal cores ++ ascii ", pages: " ++ decimal pages ++ ascii ") has " ++ decimal bytes ++ ascii " bytes\n"

unfoldable pub cut_text : ℕ → ℕ → ℕ → ℕ → List ℕ
cut_text n cores pages bytes = ascii "the input is cut at byte " ++ decimal n ++ machine_text cores pages bytes

unfoldable pub long_text : ℕ → ℕ → ℕ → List ℕ
long_text cores pages bytes = ascii "the input is too long" ++ machine_text cores pages bytes

unfoldable pub bad_cores_text : ℕ → List ℕ
bad_cores_text n = ascii "word 0 says " ++ decimal n ++ ascii " cores, not 1 to 4\n"

unfoldable pub bad_pages_text : ℕ → List ℕ
bad_pages_text n = ascii "word 1 says " ++ decimal n ++ ascii " pages, not 1 to 4096\n"
