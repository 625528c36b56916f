-- What the elements of a channel in a list have to be: fields, each of another name and with a datum of its form. The first
-- element at fault is named.
use Rattle.std.specs.Prelude.{ℕ, Bool, false, bytes_eq, if◌then◌else◌, codes, is_some, Option, Some, None, Result, Ok, Err, List, [], ◌∷◌, ◌++◌}
use Rattle.std.specs.Option.{ok_or}
use Rattle.sexp_reader.specs.Tree.{Tree, symbol_in, list_in}
use Rattle.channel_file.specs.Elements.{first_behind, head_of}
use Rattle.channel_file.specs.Fields.{quoted_name, url_in, reference_in, commit_in}
use Rattle.channel_file.specs.Introductions.{made_introduction}
use Rattle.channel_file.specs.Reading.{◌>>=◌}
use Rattle.channel_file.specs.declared.fail.ChannelFail.{ChannelFail}
use Rattle.channel_file.specs.declared.fail.ChannelFail.TheVariants as fail
use Rattle.channel_file.specs.declared.fail.Field.{Field}
use Rattle.channel_file.specs.declared.fail.Field.TheVariants as field

-- the field of a channel that this word names
abbrev pub field_of : List ℕ → Option Field
field_of word = if bytes_eq word (codes "name") then Some field.Name
    else (if bytes_eq word (codes "url") then Some field.Url
    else (if bytes_eq word (codes "branch") then Some field.Branch
    else (if bytes_eq word (codes "commit") then Some field.Commit
    else (if bytes_eq word (codes "introduction") then Some field.Introduction
    else None))))

-- whether a datum has the form of the field
abbrev pub has_form : Field → Tree → Bool
has_form field.Name datum = is_some (quoted_name datum)
has_form field.Url datum = is_some (url_in datum)
has_form field.Branch datum = is_some (reference_in datum)
has_form field.Commit datum = is_some (commit_in datum)
has_form field.Introduction datum = is_some (made_introduction datum)
has_form other datum = false

-- whether this symbol heads the form of the field
abbrev pub is_own_head : Field → List ℕ → Bool
is_own_head field.Name head = bytes_eq head (codes "quote")
is_own_head field.Introduction head = bytes_eq head (codes "make-channel-introduction")
is_own_head other head = false

-- the fault of a datum of another form, in the channel of this number
abbrev pub own_fault : ℕ → Field → ChannelFail
own_fault index field.Name = fail.Name index
own_fault index other = fail.Shape other

-- the same, unless a symbol heads the datum that isn't the form's: that would have to be evaluated
abbrev pub form_fault : ℕ → Field → Option (List ℕ) → ChannelFail
form_fault index f None = own_fault index f
form_fault index f (Some head) = if is_own_head f head then own_fault index f else fail.Evaluates head

-- a datum has the form of the field
abbrev pub datum_judged : ℕ → Field → Tree → Result (Unit {0}) ChannelFail
datum_judged index f datum = if has_form f datum then Ok tt else Err (form_fault index f (head_of datum))

-- behind these elements the name is that of a field and of none before, whose form the datum has
abbrev pub field_judged : ℕ → List Tree → List ℕ → Tree → Result (Unit {0}) ChannelFail
field_judged index before word datum = if is_some (first_behind word before) then Err (fail.Shape field.Channel)
    else ok_or (field_of word) (fail.Shape field.Channel) >>= (λ f. datum_judged index f datum)

-- a field is a symbol and one datum
abbrev pub parts_judged : ℕ → List Tree → List Tree → Result (Unit {0}) ChannelFail
parts_judged index before (head ∷ datum ∷ []) =
    ok_or (symbol_in head) (fail.Shape field.Channel) >>= (λ word. field_judged index before word datum)
parts_judged index before _ = Err (fail.Shape field.Channel)

-- an element behind these
abbrev pub element_judged : ℕ → List Tree → Tree → Result (Unit {0}) ChannelFail
element_judged index before element = ok_or (list_in element) (fail.Shape field.Channel) >>= parts_judged index before

-- each element, in order
abbrev pub elements_judged : ℕ → List Tree → List Tree → Result (Unit {0}) ChannelFail
elements_judged index before [] = Ok tt
elements_judged index before (element ∷ elements) =
    element_judged index before element >>= (λ fine. elements_judged index (before ++ element ∷ []) elements)
