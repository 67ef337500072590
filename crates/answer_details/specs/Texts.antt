-- Answers as they are printed with their details.
use Rattle.std.specs.Prelude.{◌++◌, ◌∷◌, ◌==◌, [], ℕ, List, codes, length, map, string_bytes}
use Rattle.std.specs.Prelude.{if◌then◌else◌}
use Rattle.std.specs.List.{flat_map}
use Rattle.std.specs.Str.Lines.{lines}
use Rattle.answer_details.specs.declared.details.Details.{Details}
use Rattle.exploration_texts.specs.Lines.{answers_data, answers_text, told_line}
use Rattle.exploration_texts.specs.Lines.{told_members}
use Rattle.exploration_texts.specs.declared.told.Told.{Told}

-- a line after a mark
abbrev pub marked_line : (mark line : List ℕ) → List ℕ
marked_line mark line = mark ++ line ++ codes "\n"

-- the lines of a text, each after a mark
abbrev pub marked_lines : (mark text : List ℕ) → List ℕ
marked_lines mark text = flat_map (marked_line mark) (lines text)

-- the lines of a run, each of which begins with four blanks
abbrev pub run_lines : (text : List ℕ) → List ℕ
run_lines text = marked_lines (codes "    ") text

-- each answer, and after it the lines of its run
abbrev pub answers_with : List Told → (runs : List (List ℕ)) → List ℕ
answers_with told [] = answers_text told
answers_with [] (run ∷ runs) = []
answers_with (t ∷ ts) (run ∷ runs) = told_line t ++ run_lines run ++ answers_with ts runs

-- the run as one more member of an object, if there is one
abbrev pub run_member : (run : List ℕ) → List ℕ
run_member run = if length run == 0 then [] else codes ",\"run\":" ++ run

-- the object of an answer with its run
abbrev pub object_with : Told → (run : List ℕ) → List ℕ
object_with t run = told_members t ++ run_member run ++ codes "}\n"

-- the objects of the answers, each with its run
abbrev pub detailed_data : List Told → (runs : List (List ℕ)) → List ℕ
detailed_data told [] = answers_data told
detailed_data [] (run ∷ runs) = []
detailed_data (t ∷ ts) (run ∷ runs) = object_with t run ++ detailed_data ts runs

-- the answers with their runs, and then the notes, each of which begins with `note: `
abbrev pub detailed_text : List Told → Details → List ℕ
detailed_text told d =
    answers_with told (map (λ run. string_bytes run) d.runs.items)
    ++ marked_lines (codes "note: ") (string_bytes d.notes)
