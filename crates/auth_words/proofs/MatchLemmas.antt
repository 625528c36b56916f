-- Texts of words, and matches.
use Rattle.std.proofs.Common.{◌≡◌, ◌≢◌, ◌<◌, ◌+◌, ◌++◌, ℕ, length, take, get_or, map, subst, Bool, true, false, List, [], ◌∷◌, codes, refl, sym, ap, ◌∙◌, Option, Some, None, inl, inr}
use Rattle.std.specs.Borrow.{Bor}
use Rattle.std.specs.List.{All}
use Rattle.std.specs.Str.{IsUtf8}
use Rattle.std.proofs.lemmas.Bool.{and_parts}
use Rattle.std.proofs.lemmas.List.{map-append, take_more}
use Rattle.std.proofs.lemmas.List.Elements.{All-push}
use Rattle.clap.specs.Words.{App, Kinds, Row, Text, HasKind, fault_of, first_of, one_of, is_simple, is_simple_and_free, kind_of}
use Rattle.clap.specs.Faults.{is_free_app}
use Rattle.clap.specs.Simple.{built}
use Rattle.clap.specs.declared.error.Error.{Error}
use Rattle.clap.specs.declared.error.kind.ErrorKind.TheVariants as kind
use Rattle.clap.specs.declared.parser.matches.ArgMatches.{ArgMatches}
use Rattle.clap.proofs.OnLiterals.{clap_on_literals}
use Rattle.auth_words.specs.declared.plan.Plan.{Plan}
use Rattle.auth_words.specs.declared.plan.ChannelsPlan.{ChannelsPlan}
use Rattle.auth_words.specs.App.{auth_app, options_app, channels_app}
use Rattle.auth_words.specs.Words.{Options, plan_of_two, channels_from}
use Rattle.auth_words.specs.GivenInside.{AgreesOn, Gives, IsPlanOf, IsChannelsPlanOf, Takes}

pub auth_free : is_simple_and_free auth_app ≡ true
unfolding auth_app options_app clap_on_literals
auth_free = refl

pub channels_free : is_simple_and_free channels_app ≡ true
unfolding channels_app clap_on_literals
channels_free = refl

pub is_simple_too : (app : App) → is_simple_and_free app ≡ true → is_simple app ≡ true
is_simple_too app free = (and_parts (is_simple app) (is_free_app (built app)) free).0

-- an error of another kind than want of memory comes with a fault
at_fault : (k : Kinds) (e : Error) → HasKind k e → kind_of e ≢ kind.OutOfMemory → k ≢ []
at_fault [] e (inl h) other is = other h
at_fault [] e (inr h) other is = h
at_fault (x ∷ xs) e h other is = cc is

pub is_refused : (app : App) (words : List Text) (e : Error) (m : Option ArgMatches) → HasKind (fault_of app words) e → (m ≡ None) × (kind_of e ≢ kind.OutOfMemory) → Takes app words m
is_refused app words e m h is = subst (λ (o : Option ArgMatches). Takes app words o) (sym is.0) (at_fault (fault_of app words) e h is.1)

-- ---- flags

pub agrees : (rows : List Row) (name : Text) (on : Bool) → (one_of name rows ≡ Some (codes "true") → on ≡ true) → (one_of name rows ≡ Some (codes "false") → on ≡ false) → AgreesOn rows name on
agrees rows name on if_on if_off true e = if_on e
agrees rows name on if_on if_off false e = if_off e

-- ---- the plan of `authenticate`

pub no_commit : (rows : List Row) → first_of (codes "commit") rows ≡ None → IsPlanOf rows None
no_commit rows e commit signer o is_commit is_signer unique = cc (sym e ∙ is_commit)

pub no_signer : (rows : List Row) → first_of (codes "signer") rows ≡ None → IsPlanOf rows None
no_signer rows e commit signer o is_commit is_signer unique = cc (sym e ∙ is_signer)

pub is_plan : (rows : List Row) (a b : Text) (x : Options) (plan : Option Plan) → first_of (codes "commit") rows ≡ Some a → first_of (codes "signer") rows ≡ Some b
    → Gives rows x → plan ≡ plan_of_two a b x → IsPlanOf rows plan
is_plan rows a b x plan p q gives e commit signer o is_commit is_signer unique =
    let same_commit : a ≡ commit = cc (sym p ∙ is_commit) in
    let same_signer : b ≡ signer = cc (sym q ∙ is_signer) in
    e ∙ ap (λ w. plan_of_two w b x) same_commit ∙ ap (λ w. plan_of_two commit w x) same_signer ∙ ap (λ w. plan_of_two commit signer w) (unique x gives)

-- ---- the plan of `channels`

pub no_file : (rows : List Row) → first_of (codes "file") rows ≡ None → IsChannelsPlanOf rows None
no_file rows e file clones downgrades unchecked is_file is_clones on off = cc (sym e ∙ is_file)

pub no_clones : (rows : List Row) → first_of (codes "clones") rows ≡ None → IsChannelsPlanOf rows None
no_clones rows e file clones downgrades unchecked is_file is_clones on off = cc (sym e ∙ is_clones)

pub is_channels_plan : (rows : List Row) (a b : Text) (s t : Bool) (plan : Option ChannelsPlan) → first_of (codes "file") rows ≡ Some a → first_of (codes "clones") rows ≡ Some b
    → AgreesOn rows (codes "allow-downgrades") s → AgreesOn rows (codes "disable-authentication") t → plan ≡ channels_from a b s t → IsChannelsPlanOf rows plan
is_channels_plan rows a b s t plan p q first second e file clones downgrades unchecked is_file is_clones on off =
    let same_file : a ≡ file = cc (sym p ∙ is_file) in
    let same_clones : b ≡ clones = cc (sym q ∙ is_clones) in
    e ∙ ap (λ w. channels_from w b s t) same_file ∙ ap (λ w. channels_from file w s t) same_clones ∙ ap (λ w. channels_from file clones w t) (first downgrades on)
    ∙ ap (channels_from file clones downgrades) (second unchecked off)

-- ---- the texts of words

abbrev pub texts : List (Bor Text) → List Text
texts items = map (λ s. s.now) items

one_more : (items new : List (Bor Text)) (s : Bor Text) → new ≡ items ++ s ∷ [] → texts new ≡ texts items ++ s.now ∷ []
one_more items new s e = ap texts e ∙ map-append (λ s. s.now) items (s ∷ [])

pub more_texts : (items new : List (Bor Text)) (s : Bor Text) (words : List Text) (i : ℕ) (w : Text) → new ≡ items ++ s ∷ [] → texts items ≡ take i words
    → i < length words → w ≡ get_or words i w → s.now ≡ w → texts new ≡ take (i + 1) words
more_texts items new s words i w e so_far lt is same =
    one_more items new s e ∙ ap (λ l. l ++ s.now ∷ []) so_far ∙ ap (λ x. take i words ++ x ∷ []) (same ∙ is) ∙ sym (take_more words i w lt)

pub more_utf8 : (items new : List (Bor Text)) (s : Bor Text) → new ≡ items ++ s ∷ [] → All IsUtf8 (texts items) → IsUtf8 s.now → All IsUtf8 (texts new)
more_utf8 items new s e all text = subst (λ (l : List Text). All IsUtf8 l) (sym (one_more items new s e)) (All-push IsUtf8 (texts items) s.now all text)
