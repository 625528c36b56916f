-- The texts on files that words name, and on files of authorisations. They are this project's own.
use Rattle.std.specs.Prelude.{ℕ, ◌||◌, nat_lt, nat_eq, if◌then◌else◌, List, ◌++◌, map, codes, decimal}
use Rattle.sexp_reader.specs.declared.fail.SexpFail.{SexpFail}
use Rattle.sexp_reader.specs.declared.fail.SexpFail.TheVariants as sexp
use Rattle.authorizations.specs.declared.fail.AuthFail.{AuthFail}
use Rattle.authorizations.specs.declared.fail.AuthFail.TheVariants as auth
use Rattle.auth_report.specs.declared.files.FileFail.{FileFail}
use Rattle.auth_report.specs.declared.files.FileFail.TheVariants as file
use Rattle.auth_report.specs.Parts.{line_of, out_of_memory, shown}

-- why bytes have no first datum
abbrev pub sexp_text : SexpFail → List ℕ
sexp_text (sexp.NotUtf8 at) = codes "not UTF-8 at byte " ++ decimal at
sexp_text (sexp.Escape at) = codes "unknown escape at byte " ++ decimal at
sexp_text (sexp.Open at) = codes "unfinished at byte " ++ decimal at
sexp_text (sexp.Close at) = codes "unmatched bracket at byte " ++ decimal at
sexp_text (sexp.Number at) = codes "number too large at byte " ++ decimal at
sexp_text (sexp.Hash at) = codes "unsupported character at byte " ++ decimal at
sexp_text (sexp.Deep at) = codes "nested too deeply at byte " ++ decimal at
sexp_text sexp.Memory = out_of_memory

-- why bytes are no file of authorisations
abbrev pub auth_text : AuthFail → List ℕ
auth_text (auth.Sexp fail) = sexp_text fail
auth_text auth.Shape = codes "not an authorizations form"
auth_text (auth.Version n) = codes "authorizations version " ++ decimal n ++ codes " is not supported"
auth_text (auth.Fingerprint index) = codes "entry " ++ decimal index ++ codes " has no valid fingerprint"
auth_text auth.Memory = out_of_memory

-- what is wrong with a file, behind its name
abbrev pub trouble_text : FileFail → List ℕ
trouble_text file.Missing = codes " is missing"
trouble_text file.TooLong = codes " is longer than 1048576 bytes"
trouble_text (file.Malformed fail) = codes ": " ++ auth_text fail
trouble_text file.Failed = codes " cannot be read"
trouble_text file.Memory = codes ": " ++ out_of_memory

-- the line for a file that gives no keys
abbrev pub file_line : List ℕ → FileFail → List ℕ
file_line path fail = line_of (codes "file " ++ shown path ++ trouble_text fail)
