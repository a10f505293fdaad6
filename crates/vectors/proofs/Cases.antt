-- A decision for one constructor alone: none for all the others.
use Rattle.std.proofs.Common.{ℕ, Bool, List, [], ◌∷◌, ℤ, None, Option}
use Rattle.dump.specs.declared.kinds.ViewKind.{ViewKind}
use Rattle.dump.specs.declared.kinds.ErrorName.{ErrorName}
use Rattle.dump.specs.Heaps.{Text}
use Rattle.evaluator.specs.Stores.{Val, undefined, null, boolean, number, big, text, ref, Shape, wrapped, regexp, date, ordinary, array, mapping, setting, buffer, view, error, Slot, keyed, pair, single}

abbrev pub on_wrapped : (P : Shape → Type 0) → ((v : Val) → Option (P (wrapped v))) → (s : Shape) → Option (P s)
on_wrapped P f (wrapped v) = f v
on_wrapped P f (regexp t n) = None
on_wrapped P f (date t) = None
on_wrapped P f ordinary = None
on_wrapped P f (array n) = None
on_wrapped P f mapping = None
on_wrapped P f setting = None
on_wrapped P f (buffer bs m) = None
on_wrapped P f (view k o n) = None
on_wrapped P f (error e m st) = None

abbrev pub on_regexp : (P : Shape → Type 0) → ((t : Text) (n : ℕ) → Option (P (regexp t n))) → (s : Shape) → Option (P s)
on_regexp P f (wrapped v) = None
on_regexp P f (regexp t n) = f t n
on_regexp P f (date t) = None
on_regexp P f ordinary = None
on_regexp P f (array n) = None
on_regexp P f mapping = None
on_regexp P f setting = None
on_regexp P f (buffer bs m) = None
on_regexp P f (view k o n) = None
on_regexp P f (error e m st) = None

abbrev pub on_date : (P : Shape → Type 0) → ((t : Option ℤ) → Option (P (date t))) → (s : Shape) → Option (P s)
on_date P f (wrapped v) = None
on_date P f (regexp t n) = None
on_date P f (date t) = f t
on_date P f ordinary = None
on_date P f (array n) = None
on_date P f mapping = None
on_date P f setting = None
on_date P f (buffer bs m) = None
on_date P f (view k o n) = None
on_date P f (error e m st) = None

abbrev pub on_ordinary : (P : Shape → Type 0) → Option (P ordinary) → (s : Shape) → Option (P s)
on_ordinary P f (wrapped v) = None
on_ordinary P f (regexp t n) = None
on_ordinary P f (date t) = None
on_ordinary P f ordinary = f
on_ordinary P f (array n) = None
on_ordinary P f mapping = None
on_ordinary P f setting = None
on_ordinary P f (buffer bs m) = None
on_ordinary P f (view k o n) = None
on_ordinary P f (error e m st) = None

abbrev pub on_array : (P : Shape → Type 0) → ((n : ℕ) → Option (P (array n))) → (s : Shape) → Option (P s)
on_array P f (wrapped v) = None
on_array P f (regexp t n) = None
on_array P f (date t) = None
on_array P f ordinary = None
on_array P f (array n) = f n
on_array P f mapping = None
on_array P f setting = None
on_array P f (buffer bs m) = None
on_array P f (view k o n) = None
on_array P f (error e m st) = None

abbrev pub on_mapping : (P : Shape → Type 0) → Option (P mapping) → (s : Shape) → Option (P s)
on_mapping P f (wrapped v) = None
on_mapping P f (regexp t n) = None
on_mapping P f (date t) = None
on_mapping P f ordinary = None
on_mapping P f (array n) = None
on_mapping P f mapping = f
on_mapping P f setting = None
on_mapping P f (buffer bs m) = None
on_mapping P f (view k o n) = None
on_mapping P f (error e m st) = None

abbrev pub on_setting : (P : Shape → Type 0) → Option (P setting) → (s : Shape) → Option (P s)
on_setting P f (wrapped v) = None
on_setting P f (regexp t n) = None
on_setting P f (date t) = None
on_setting P f ordinary = None
on_setting P f (array n) = None
on_setting P f mapping = None
on_setting P f setting = f
on_setting P f (buffer bs m) = None
on_setting P f (view k o n) = None
on_setting P f (error e m st) = None

abbrev pub on_buffer : (P : Shape → Type 0) → ((bs : List ℕ) (m : Option ℕ) → Option (P (buffer bs m))) → (s : Shape) → Option (P s)
on_buffer P f (wrapped v) = None
on_buffer P f (regexp t n) = None
on_buffer P f (date t) = None
on_buffer P f ordinary = None
on_buffer P f (array n) = None
on_buffer P f mapping = None
on_buffer P f setting = None
on_buffer P f (buffer bs m) = f bs m
on_buffer P f (view k o n) = None
on_buffer P f (error e m st) = None

abbrev pub on_view : (P : Shape → Type 0) → ((k : ViewKind) (o : ℕ) (n : Option ℕ) → Option (P (view k o n))) → (s : Shape) → Option (P s)
on_view P f (wrapped v) = None
on_view P f (regexp t n) = None
on_view P f (date t) = None
on_view P f ordinary = None
on_view P f (array n) = None
on_view P f mapping = None
on_view P f setting = None
on_view P f (buffer bs m) = None
on_view P f (view k o n) = f k o n
on_view P f (error e m st) = None

abbrev pub on_error : (P : Shape → Type 0) → ((e : ErrorName) (m st : Option Text) → Option (P (error e m st))) → (s : Shape) → Option (P s)
on_error P f (wrapped v) = None
on_error P f (regexp t n) = None
on_error P f (date t) = None
on_error P f ordinary = None
on_error P f (array n) = None
on_error P f mapping = None
on_error P f setting = None
on_error P f (buffer bs m) = None
on_error P f (view k o n) = None
on_error P f (error e m st) = f e m st

abbrev pub on_undefined : (P : Val → Type 0) → Option (P undefined) → (s : Val) → Option (P s)
on_undefined P f undefined = f
on_undefined P f null = None
on_undefined P f (boolean b) = None
on_undefined P f (number n) = None
on_undefined P f (big z) = None
on_undefined P f (text t) = None
on_undefined P f (ref p) = None

abbrev pub on_null : (P : Val → Type 0) → Option (P null) → (s : Val) → Option (P s)
on_null P f undefined = None
on_null P f null = f
on_null P f (boolean b) = None
on_null P f (number n) = None
on_null P f (big z) = None
on_null P f (text t) = None
on_null P f (ref p) = None

abbrev pub on_boolean : (P : Val → Type 0) → ((b : Bool) → Option (P (boolean b))) → (s : Val) → Option (P s)
on_boolean P f undefined = None
on_boolean P f null = None
on_boolean P f (boolean b) = f b
on_boolean P f (number n) = None
on_boolean P f (big z) = None
on_boolean P f (text t) = None
on_boolean P f (ref p) = None

abbrev pub on_number : (P : Val → Type 0) → ((n : ℕ) → Option (P (number n))) → (s : Val) → Option (P s)
on_number P f undefined = None
on_number P f null = None
on_number P f (boolean b) = None
on_number P f (number n) = f n
on_number P f (big z) = None
on_number P f (text t) = None
on_number P f (ref p) = None

abbrev pub on_big : (P : Val → Type 0) → ((z : ℤ) → Option (P (big z))) → (s : Val) → Option (P s)
on_big P f undefined = None
on_big P f null = None
on_big P f (boolean b) = None
on_big P f (number n) = None
on_big P f (big z) = f z
on_big P f (text t) = None
on_big P f (ref p) = None

abbrev pub on_text : (P : Val → Type 0) → ((t : Text) → Option (P (text t))) → (s : Val) → Option (P s)
on_text P f undefined = None
on_text P f null = None
on_text P f (boolean b) = None
on_text P f (number n) = None
on_text P f (big z) = None
on_text P f (text t) = f t
on_text P f (ref p) = None

abbrev pub on_ref : (P : Val → Type 0) → ((p : ℕ) → Option (P (ref p))) → (s : Val) → Option (P s)
on_ref P f undefined = None
on_ref P f null = None
on_ref P f (boolean b) = None
on_ref P f (number n) = None
on_ref P f (big z) = None
on_ref P f (text t) = None
on_ref P f (ref p) = f p

abbrev pub on_keyed : (P : List Slot → Type 0) → ((t : Text) (w : Val) (ss : List Slot) → Option (P (keyed t w ∷ ss))) → (ss : List Slot) → Option (P ss)
on_keyed P f [] = None
on_keyed P f (keyed t w ∷ ss) = f t w ss
on_keyed P f (pair u w ∷ ss) = None
on_keyed P f (single w ∷ ss) = None

abbrev pub on_pair : (P : List Slot → Type 0) → ((u w : Val) (ss : List Slot) → Option (P (pair u w ∷ ss))) → (ss : List Slot) → Option (P ss)
on_pair P f [] = None
on_pair P f (keyed t w ∷ ss) = None
on_pair P f (pair u w ∷ ss) = f u w ss
on_pair P f (single w ∷ ss) = None

abbrev pub on_single : (P : List Slot → Type 0) → ((w : Val) (ss : List Slot) → Option (P (single w ∷ ss))) → (ss : List Slot) → Option (P ss)
on_single P f [] = None
on_single P f (keyed t w ∷ ss) = None
on_single P f (pair u w ∷ ss) = None
on_single P f (single w ∷ ss) = f w ss
